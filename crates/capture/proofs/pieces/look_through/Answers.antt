-- Each piece joins what was read before it.
use Rattle.std.proofs.Common.{rules, arith}
use Rattle.capture.proofs.Reading.{nothing_read, read_on, count_fits}
use Rattle.capture.proofs.pieces.look_through.Goals as goal

pub loop-turn-init : goal.loop-turn-init
loop-turn-init g c = (nothing_read (g.I.Read.remaining c.args.input.now), omega arith)

pub returns-then-count-eq0-clause-read : goal.returns-then-count-eq0-clause-read
returns-then-count-eq0-clause-read g c =
    let before = c.loop-turn.invariant.0 in
    let more = read_on _ _ _ c.loop-turn.before c.in_ok-count.count c.next_levels.new.buffer before c.in_ok-count.ensures.read in
    let same = rw c.if-count-eq0.true at more in
    rw (count_fits _ _ c.loop-turn.before before) at same

pub loop-turn-preserved : goal.loop-turn-preserved
loop-turn-preserved g c =
    let more = read_on _ _ _ c.loop-turn.before c.in_ok-count.count c.next_levels.new.buffer c.loop-turn.invariant.0 c.in_ok-count.ensures.read in
    (rw c.saturating_add-before.ensures more, omega (arith, c.loop-turn.invariant.1, c.if-count-eq0.false, c.saturating_add-before.ensures))

pub returns-clause-read : goal.returns-clause-read
returns-clause-read g c = search rules

pub returns-clause-end : goal.returns-clause-end
returns-clause-end g c = search rules
