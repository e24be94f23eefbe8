-- A run does one act after the other.
use Rattle.std.proofs.Common.{arith}
use Rattle.link.proofs.Acts.{state_more, answers_more}
use Rattle.link.proofs.Run.{delivers}
use Rattle.link.proofs.joined.Link.run.Goals as goal

pub returns-then-answers-acts-clause-delivers : goal.returns-then-answers-acts-clause-delivers
returns-then-answers-acts-clause-delivers g c = delivers _ c.args.acts.now

pub loop-i-preserved : goal.loop-i-preserved
loop-i-preserved g c = (
  state_more _ c.args.acts.now c.loop-i.i _ _ _ c.loop-i-test.true c.loop-i.invariant.0 c.act.ensures.state,
  answers_more _ c.args.acts.now c.loop-i.i _ _ c.args.answers.now c.loop-i.answers c.act.result c.loop-i-test.true (omega arith) c.loop-i.invariant.0 c.act.ensures.answer c.loop-i.invariant.1,
)

pub returns-clause-delivers : goal.returns-clause-delivers
returns-clause-delivers g c = delivers _ c.args.acts.now
