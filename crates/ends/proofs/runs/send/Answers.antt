-- One more clock writes the next level down, and what is due comes level by level.
use Rattle.std.proofs.Common.{◌∙◌, arith}
use Rattle.ends.specs.Sender.{SenderState}
use Rattle.ends.proofs.Speaking.{sends, frame_begun, one_send, spoken_more}
use Rattle.ends.proofs.runs.send.Goals as goal

pub loop-level-preserved : goal.loop-level-preserved
loop-level-preserved g c =
    let s : SenderState = g.S.Sender.meaning c.args.sender.now in (
      c.clock.ensures.state ∙ one_send s c.loop-level.level-index _ c.loop-level.invariant.0,
      spoken_more s c.loop-level.level-index _ c.loop-level.invariant.0 c.clock.result c.args.levels.now c.loop-level.levels (omega arith) c.clock.ensures.level c.loop-level.invariant.1,
    )

pub returns-clause-due : goal.returns-clause-due
returns-clause-due g c =
    let start = c.args.sender.now in
    let s : SenderState = g.S.Sender.meaning start in
    sends s (frame_begun s (g.met.S.Sender.sound start))
