-- Each bit goes where the one before it ends.
use Rattle.std.proofs.Common.{sym, refl, arith}
use Rattle.std.proofs.lemmas.List.{length-replicate}
use Rattle.picture.proofs.Rest.{none_yet, piece_fits, one_more, all_written}
use Rattle.picture.proofs.Clocks.{frame_size, from_start, next_bit, past_last}
use Rattle.picture.proofs.drawing.draw_frame.Goals as goal

pub loop-length-init : goal.loop-length-init
loop-length-init c =
    let t = c.args.timing.now in
    none_yet (from_start t c.args.character _ c.frame-digits.ensures.value) (omega (arith, frame_size t c.args.character))

pub draw_run-requires : goal.draw_run-requires
draw_run-requires c =
    piece_fits _ _ c.loop-length.invariant (next_bit c.args.timing.now c.loop-length.length-index (omega arith) c.loop-length.digits _ c.bits.ensures c.from_digit.ensures) (sym (length-replicate _ _))

pub loop-length-preserved : goal.loop-length-preserved
loop-length-preserved c =
    one_more _ _
    c.loop-length.invariant
    (next_bit c.args.timing.now c.loop-length.length-index (omega arith) c.loop-length.digits _ c.bits.ensures c.from_digit.ensures)
    (sym (length-replicate _ _))
    refl
    c.draw_run.ensures

pub returns : goal.returns
returns c =
    let t = c.args.timing.now in
    all_written c.loop-length.invariant (past_last t c.loop-length.length-index c.loop-length.digits (omega arith)) (sym (frame_size t c.args.character))
