-- What the scan of a piece gives, of the capture that it is read from.
use Rattle.std.proofs.Common.{ℕ, List, length, take, ◌∙◌}
use Rattle.std.proofs.lemmas.List.{map-id}
use Rattle.std.proofs.lemmas.Slice.Zip.{AllZip-map}
use Rattle.ends.specs.Receiver.{Entry}
use Rattle.ends.specs.BareReceiver.{meant}
use Rattle.ends.specs.Runs.{taken_down}
use Rattle.picture.specs.Scanning.{levels, pairs_stay}
use Rattle.capture.proofs.Reading.{too_many, continues}
use Rattle.capture.proofs.pieces.Pieces.next.Goals as goal

pub returns-in_default-clause-fault : goal.returns-in_default-clause-fault
returns-in_default-clause-fault g c =
    let n : ℕ = c.in_ok-bytes.bytes in
    let read = c.in_ok-bytes.ensures.read in
    record {
      count = n;
      read = read;
      more = too_many (meant c.args.self.now.scanner.receiver) (take n c.next_levels.new.buffer) (length c.args.entries.now) c.in_default.field-0 read.levels_only c.in_default.ensures.answer;
    }

pub returns-clause-goes_on : goal.returns-clause-goes_on
returns-clause-goes_on g c =
    let r = meant c.args.self.now.scanner.receiver in
    let bs : List ℕ = take c.in_ok-bytes.bytes c.next_levels.new.buffer in
    let es : List Entry = taken_down r (levels bs) in
    continues (g.I.Read.remaining c.args.input.now) (g.I.Read.remaining c.next_levels.new.input) r (meant c.scan.new.self.receiver) bs (take c.in-Ok.found c.scan.new.entries)
    c.in_ok-bytes.ensures.read.read
    c.in-Ok.ensures.pieces
    c.in-Ok.ensures.state
    (AllZip-map (λ e. e) es (take c.in-Ok.found c.scan.new.entries) c.in-Ok.ensures.entries.0 ∙ map-id es)

pub returns-clause-entries : goal.returns-clause-entries
returns-clause-entries g c =
    pairs_stay (taken_down (meant c.args.self.now.scanner.receiver) (levels (take c.in_ok-bytes.bytes c.next_levels.new.buffer))) c.in-Ok.found c.scan.new.entries c.args.entries.now c.in-Ok.ensures.entries
