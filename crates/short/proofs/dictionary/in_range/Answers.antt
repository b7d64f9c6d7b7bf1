-- The four tables, one after the other. Assumes nothing.
use Rattle.short.specs.Ranges.{four_tables}
use Rattle.short.proofs.dictionary.in_range.Goals as goal

pub returns : goal.returns
returns c = rw (c.table_fits-source.ensures, c.table_fits-subregister.ensures, c.table_fits-datatype.ensures, c.table_fits-control.ensures) (four_tables _)
