-- What comes with the first bytes, and what comes of the rest.
use Rattle.std.proofs.Common.{◌≡◌, ℕ, List, ◌++◌, drop, sym, ap, ◌∙◌, ap₂}
use Rattle.std.specs.Result.{result_ok}
use Rattle.std.specs.Option.{option_to_list}
use Rattle.ends.specs.Receiver.{ReceiverState, Entry, oldest}
use Rattle.ends.specs.BareReceiver.{meant}
use Rattle.ends.specs.Runs.{taken_down}
use Rattle.picture.specs.Scanning.{levels, after_listed}
use Rattle.picture.proofs.Listing.{taken_on, listed_on}
use Rattle.picture.proofs.scanner.Scanner.step.Goals as goal

pub returns-clause-state : goal.returns-clause-state
returns-clause-state c =
    let s = c.args.self.now in
    let heard = c.hear_some-heard in
    let rest : List ℕ = drop heard.result c.args.rest.now in
    listed_on (meant s.receiver) (meant heard.new.self) s.read c.args.rest.now heard.result (heard.ensures.some c.requires) heard.ensures.within heard.ensures.state heard.ensures.quiet
    ∙ sym (ap (λ (m : ReceiverState). after_listed m (levels rest)) c.read.ensures.state)

pub returns-clause-taken : goal.returns-clause-taken
returns-clause-taken c =
    let s = c.args.self.now in
    let heard = c.hear_some-heard in
    let rest : List ℕ = drop heard.result c.args.rest.now in
    let answer : option_to_list c.ok.result ≡ option_to_list (result_ok (oldest (meant heard.new.self).unread)) =
    ap option_to_list c.ok.ensures.value ∙ ap (λ x. option_to_list (result_ok x)) c.read.ensures.answer in
    taken_on (meant s.receiver) (meant heard.new.self) s.read c.args.rest.now heard.result (heard.ensures.some c.requires) heard.ensures.within heard.ensures.state heard.ensures.quiet
    ∙ sym (ap₂ {C = List Entry} (λ es m. es ++ taken_down m (levels rest)) answer c.read.ensures.state)
