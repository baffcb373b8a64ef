-- What a process asks of its host first, and how the source of a file starts.
use Rattle.std.specs.Prelude.{◌≡◌, ℕ, List, Option}
use Rattle.std.specs.Io.Buffered.{reader_inner}
use Rattle.std.specs.declared.alloc.Global.{Global}
use Rattle.std.specs.declared.io.buffered.BufReader.{BufReader}
use Rattle.ctd_source.specs.declared.from_read.FromRead.{FromRead}
use Rattle.ctd_source.specs.declared.source.Source as sources
use Rattle.ctd_source.specs.declared.source.Seen.TheVariants.{Going}
use Rattle.ctd_source.specs.Reader.{reader_of}
use Rattle.ctd_process.specs.declared.host.Host.{Ghosts}
use Rattle.ctd_process.specs.Words.{Args}

-- a process asked its host for the two streams, each once, and for the words, once, and for nothing else before
pub record Begins {F O E R : Type 0} (h : Ghosts F O E R) (old : F) : Type 0 where
  pub out : O
  pub after_out : F
  pub out_is : h.gives_out old out after_out
  pub err : E
  pub after_err : F
  pub err_is : h.gives_err after_out err after_err
  pub args : Args
  pub after_args : F
  pub args_are : h.gives_args after_err args after_args

-- a source that reads this reader behind a buffer; it has given nothing, and has left what the reader tells of its bytes
pub record StartsOn {R : Type 0} (remaining : R → Option (List ℕ)) (G : sources.Ghosts (FromRead (BufReader R Global))) (reader : R) (source : FromRead (BufReader R Global)) : Type 0 where
  pub inner : reader_inner (reader_of source) ≡ reader
  pub going : G.seen source ≡ Going
  pub given : G.given source ≡ 0
  pub left : G.left source ≡ remaining reader
