-- A reader as a source.
use Rattle.ctd_source.specs.declared.from_read.FromRead.{FromRead}

-- the reader of a source
abbrev pub reader_of : {R : Type 0} → FromRead R → R
reader_of source = source.reader
