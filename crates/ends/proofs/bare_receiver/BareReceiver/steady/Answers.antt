-- While the bytes are that of the level before, an idle receiver stays as it is.
use Rattle.std.proofs.Common.{◌≡◌, ℕ, ◌<◌, ◌≤◌, List, length, map, take, get_or, sym, ◌∙◌, subst, arith}
use Rattle.std.specs.Option.{option_to_list}
use Rattle.line.specs.declared.level.Level.{Level}
use Rattle.line.specs.Levels.{level_of, byte_of}
use Rattle.ends.specs.declared.doing.Doing.{Doing}
use Rattle.ends.specs.declared.doing.Doing.TheVariants.{Idle}
use Rattle.ends.specs.declared.bare_receiver.BareReceiver.{BareReceiver}
use Rattle.ends.specs.Receiver.{ReceiverState, with}
use Rattle.ends.specs.BareReceiver.{meant, doing_of}
use Rattle.ends.proofs.Quiet.{Passed, idle_passes, equal_levels}
use Rattle.ends.proofs.bare_receiver.BareReceiver.steady.Goals as goal

stays : (r : BareReceiver) (bs : List ℕ) (j k : ℕ) → r.doing ≡ Idle → j ≤ k → k ≤ length bs → ((i : ℕ) → i < k → get_or bs i 0 ≡ byte_of r.previous)
    → Passed (meant r) (meant r) (map level_of (take j bs))
stays r bs j k rests few within equal =
    let m : Doing → ReceiverState = λ d. with (meant r) (option_to_list r.unread) r.previous (doing_of d) in
    let levels = equal_levels bs j r.previous (omega arith) (λ i l. equal i (omega arith)) in
    subst (λ (d : Doing). Passed (m d) (m d) (map level_of (take j bs))) (sym rests)
    (subst (λ (ls : List Level). Passed (m Idle) (m Idle) ls) (sym levels) (idle_passes (meant r) (option_to_list r.unread) r.previous j))

pub returns-in-Idle-clause-state : goal.returns-in-Idle-clause-state
returns-in-Idle-clause-state c =
    (stays c.args.self.now c.args.bytes.now _ _ c.in-Idle.is (omega arith) c.run_length.ensures.within (λ i l. c.run_length.ensures.equal i l ∙ c.from.ensures)).state

pub returns-in-Idle-clause-quiet : goal.returns-in-Idle-clause-quiet
returns-in-Idle-clause-quiet c k h =
    (stays c.args.self.now c.args.bytes.now k _ c.in-Idle.is h c.run_length.ensures.within (λ i l. c.run_length.ensures.equal i l ∙ c.from.ensures)).quiet
