use Rattle.ctd_lint_tool.proofs.process.answer.Goals as goal

pub returns : goal.returns
returns g c = record {
  begins = record {
    out = c.out.result;
    after_out = c.out.new.self;
    out_is = c.out.ensures;
    err = c.err.result;
    after_err = c.err.new.self;
    err_is = c.err.ensures;
    args = c.args-args.result;
    after_args = c.args-args.new.self;
    args_are = c.args-args.ensures;
  };
  ends = rw (c.new-out.ensures, c.new-err.ensures) at c.answer_args-status.ensures;
}
