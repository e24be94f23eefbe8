-- A clock in a frame whose samples are those of its bits: the frame goes on, or it ends with the bits sent.
use Rattle.std.proofs.Common.{◌≡◌, ℕ, ◌+◌, ◌*◌, ◌<◌, List, [], ◌∷◌, length, get_or, ap, ◌∙◌, ⊎_elim, arith}
use Rattle.line.specs.declared.level.Level.{Level}
use Rattle.line.specs.declared.level.Level.TheVariants.{Space, Mark}
use Rattle.line.specs.declared.format.Format.{Format}
use Rattle.line.specs.Frames.{first_stop}
use Rattle.ends.specs.Times.{samples_per_frame}
use Rattle.ends.specs.Receiver.{Heard, framing, nothing, heard_in_frame, after_frame, entry_of, going_on, decided}
use Rattle.ends.proofs.Sampling.{Taken, decided_all, decided_first}
use Rattle.ends.proofs.InFrame.{frame_over, frame_unended}

-- ls are the samples after clock n
pub ends : (f : Format) (n : ℕ) (ls bits : List Level) → Taken ls bits → length ls ≡ 3 * length bits → length bits ≡ 1 + first_stop f
    → heard_in_frame f n ls ≡ record { doing = after_frame (entry_of f bits); arrived = entry_of f bits ∷ [] }
ends f n ls bits t e k =
    frame_over f n ls (omega (arith, e, k))
    ∙ ap {B = Heard} (λ bs. record { doing = after_frame (entry_of f bs); arrived = entry_of f bs ∷ [] }) (decided_all ls bits t e)

pub goes_on : (f : Format) (n : ℕ) (ls bits : List Level) → Taken ls bits → length ls < samples_per_frame f → get_or bits 0 Mark ≡ Space
    → heard_in_frame f n ls ≡ nothing (framing n ls)
goes_on f n ls bits t few k = frame_unended f n ls few
    ∙ ⊎_elim (λ (z : decided ls ≡ []). ap {B = Heard} (λ bs. nothing (going_on bs n ls)) z)
    (λ (z : (rest : List Level) × (decided ls ≡ get_or bits 0 Mark ∷ rest)).
    ap {B = Heard} (λ bs. nothing (going_on bs n ls)) z.1 ∙ ap {B = Heard} (λ b. nothing (going_on (b ∷ z.0) n ls)) k)
    (decided_first ls bits t)
