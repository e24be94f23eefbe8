-- The two tables are those of the specification, and keep what a `Timing` asks of them.
use Rattle.std.proofs.Common.{◌≡◌, refl, ◌+◌, ◌*◌, arith, rules}
use Rattle.line.specs.Frames.{first_stop}
use Rattle.line.proofs.Bits.{stop_most}
use Rattle.port.proofs.Table.{timed_plain, frame_samples, spaced, inside, tables}
use Rattle.port.proofs.port.PortKind.timing.Goals as goal

pub invariant_of-result : goal.invariant_of-result
invariant_of-result c =
    let t = tables _ _ c.sample_table.ensures (omega arith, omega arith) in
    search rules

pub returns : goal.returns
returns c =
    let f = c.args.format in
    let last = stop_most f in
    let used = frame_samples _ (3 * (1 + first_stop f)) _ c.sample_table.ensures (omega arith) in
    let same : c.from-divider.result ≡ c.args.settings.divider = omega arith in
    record {
      times = cc (timed_plain f c.args.settings.divider (cc));
      inside = inside _ _ _ used (omega arith) (first_stop f) last refl;
      spaced = rw (← same) (spaced _ _ _ used (first_stop f) last refl);
    }
