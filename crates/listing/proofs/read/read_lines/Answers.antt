-- A jump goes astray, or the kernel is written. Assumes nothing.
use Rattle.paper.specs.Dictionary.{dictionary_of}
use Rattle.listing.specs.Again.{lines_in}
use Rattle.listing.specs.Joining.{read_astray, read-landed, told_faulty, told_kernel}
use Rattle.listing.proofs.read.read_lines.Goals as goal

pub returns-in-None : goal.returns-in-None
returns-in-None c =
    let a = c.args in
    let w = c.write_read in
    told_kernel (dictionary_of a.dictionary.now) a.text.now a.out.now (lines_in a.dictionary.now a.text.now)
    (read-landed _ _ _ _ c.requires _ c.first_astray.ensures c.in-None.is) w.result _ w.ensures

pub returns-in-Some : goal.returns-in-Some
returns-in-Some c =
    let a = c.args in
    rw c.at.ensures (told_faulty (dictionary_of a.dictionary.now) a.text.now a.out.now _
    (read_astray _ _ _ _ c.requires _ c.first_astray.ensures _ c.in-Some.is))
