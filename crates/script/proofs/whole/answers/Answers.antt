use Rattle.std.proofs.Common.{subst}
use Rattle.script.specs.Runs.{RanScript}
use Rattle.script.proofs.whole.answers.Goals as goal

pub returns : goal.returns
returns g c = record {
  before = c.new-register.result;
  after = c.run.new.register;
  of_book = c.new-register.ensures.book;
  nothing = c.new-register.ensures.state;
  ran = subst (λ held. RanScript g.S.Strength.kind c.args.script.now c.new-register.result held c.run.new.register c.run.new.output.items) c.new-output.ensures.items c.in_ok-run.ensures.ran;
}
