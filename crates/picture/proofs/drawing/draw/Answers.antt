-- Each frame goes where the one before it ends.
use Rattle.std.proofs.Common.{sym, refl, add-mul, zero-mul, arith}
use Rattle.std.proofs.lemmas.Bool.Decides.{nat_tests}
use Rattle.picture.proofs.Rest.{none_yet, one_more}
use Rattle.picture.proofs.Clocks.{frame_size, drawn_size, next_frame}
use Rattle.picture.proofs.drawing.draw.Goals as goal

pub returns-then-picture-size-clause-answer : goal.returns-then-picture-size-clause-answer
returns-then-picture-size-clause-answer c =
    let size = drawn_size c.args.timing.now c.args.characters.now _ c.frame_clocks-clocks.ensures.value in
    let narrow = c.if-any_wide.ensures in
    grind (arith, nat_tests)

pub loop-i-init : goal.loop-i-init
loop-i-init c =
    let size = drawn_size c.args.timing.now c.args.characters.now _ c.frame_clocks-clocks.ensures.value in
    rw zero-mul (none_yet refl (omega arith))

pub loop-i-preserved : goal.loop-i-preserved
loop-i-preserved c =
    let t = c.args.timing.now in
    one_more _ _
    c.loop-i.invariant
    (next_frame t c.args.characters.now c.loop-i.i c.loop-i-test.true)
    (sym (frame_size t _))
    (omega (arith, add-mul c.loop-i.i 1 c.frame_clocks-clocks.result))
    c.draw_frame.ensures
