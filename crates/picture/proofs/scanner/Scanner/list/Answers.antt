-- Each entry goes where the one before it ends.
use Rattle.std.proofs.Common.{◌≡◌, ℕ, ◌-◌, List, ◌++◌, length, take, drop, sym, ap, ◌∙◌, subst, arith}
use Rattle.std.proofs.lemmas.List.{take_all, length-drop}
use Rattle.std.specs.Option.{option_to_list}
use Rattle.ends.specs.Receiver.{ReceiverState, Entry}
use Rattle.ends.specs.BareReceiver.{meant}
use Rattle.ends.specs.Runs.{taken_down}
use Rattle.picture.specs.Scanning.{levels, after_listed}
use Rattle.picture.proofs.Listing.{Partly, none_came, one_came}
use Rattle.picture.proofs.scanner.Scanner.list.Goals.{in-Some, in_default}
use Rattle.picture.proofs.scanner.Scanner.list.Goals as goal

pub loop-rest-preserved : goal.loop-rest-preserved
loop-rest-preserved g c =
    let r : ReceiverState = meant c.args.self.now.receiver in
    let u : ReceiverState = meant c.step-heard.new.self.receiver in
    let bs = c.loop-rest.rest.now in
    let k = c.step-heard.result.0 in
    let es : List Entry = taken_down u (levels (drop k bs)) in
    let inv = c.loop-rest.invariant in
    let left : take (length bs - k) (drop k bs) ≡ drop k bs = take_all (length bs - k) (drop k bs) (omega (arith, length-drop k bs)) in
    subst (λ (xs : List ℕ). Partly g.E.From.from_gives (taken_down r (levels c.args.piece.now)) c.args.entries.now (taken_down u (levels xs)) c.match-entry.entries c.match-entry.found
    × (after_listed u (levels xs) ≡ after_listed r (levels c.args.piece.now)))
    (sym left) (
      elim c.match-entry.branch [
        | in-Some w ↦ one_came inv.0 es w.in-Some.entry w.from.result (c.step-heard.ensures.taken ∙ ap (λ o. option_to_list o ++ es) w.in-Some.is) w.from.ensures w.entries-is w.found-is
        | in_default w ↦ none_came inv.0 es (c.step-heard.ensures.taken ∙ ap (λ o. option_to_list o ++ es) w.in_default.is) w.entries-is w.found-is
      ],
      sym c.step-heard.ensures.state ∙ inv.1,
    )
