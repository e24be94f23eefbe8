-- Each act that is not declined is done, and its answer goes into its place.
use Rattle.std.proofs.Common.{arith}
use Rattle.capi.proofs.Acts.{state_more, answers_more}
use Rattle.capi.proofs.running.do_all.Goals as goal

pub loop-i-preserved : goal.loop-i-preserved
loop-i-preserved g c =
    let acts = c.args.acts.now in (
      state_more _ acts c.loop-i.i _ _ _ c.loop-i-test.true c.loop-i.invariant.0 c.do_one.ensures.state,
      answers_more _ acts c.loop-i.i _ _ c.args.answers.now c.loop-i.answers c.do_one.result c.loop-i-test.true (omega arith) c.loop-i.invariant.0
          c.do_one.ensures.answer c.loop-i.invariant.1,
    )
