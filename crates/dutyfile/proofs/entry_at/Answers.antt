use Rattle.dutyfile.specs.File.{bodies_at}
use Rattle.dutyfile.proofs.Entries.{entry_made}
use Rattle.dutyfile.proofs.entry_at.Goals as goal

pub returns : goal.returns
returns c =
    let a = c.args in
    entry_made a.file.now (bodies_at a.j) _ _ _ c.get32.ensures c.get16.ensures c.get16-2.ensures
