-- The lists that the code is given, in 01's terms.
use Rattle.dutyfile.specs.File.{Lists as FileLists, lists}
use Rattle.render.specs.declared.Lists.{Lists}

abbrev pub lists_of : Lists → FileLists
lists_of given = lists given.edition given.rows given.costs.now given.lengths.now given.numbers.now
