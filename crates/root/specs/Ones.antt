-- What setting the first marks of a list comes to.
use Rattle.std.specs.Prelude.{List, ◌++◌, ℕ, drop, replicate}

-- a list with its first n places 1
abbrev pub ones : ℕ → List ℕ → List ℕ
ones n l = replicate n 1 ++ drop n l
