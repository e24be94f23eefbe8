-- A sender sends what is due, level by level.
use Rattle.std.proofs.Common.{◌≡◌, ℕ, zero, suc, ◌+◌, ◌<◌, List, [], ◌∷◌, ◌++◌, length, get_or, drop, set, replicate, sym, refl, ap, ◌∙◌, arith}
use Rattle.std.proofs.lemmas.List.{append_assoc, drop_more, set_at}
use lib.Seq.{drop-nil}
use Rattle.line.specs.declared.level.Level.{Level}
use Rattle.line.specs.declared.level.Level.TheVariants.{Mark}
use Rattle.line.specs.Frames.{frame}
use Rattle.ends.specs.Times.{held}
use Rattle.ends.specs.Sender.{SenderState, SoundSender, frame_levels, frames, holding, first_of, rest_of, sent, after_send}
use Rattle.ends.specs.Runs.{after_sends, spoken, due, Sends}

-- a frame has a first level
pub record Begun (ls : List Level) : Type 0 where
  pub first : Level
  pub rest : List Level
  pub is : ls ≡ first ∷ rest

pub frame_begun : (s : SenderState) → SoundSender s → (c : ℕ) → Begun (frame_levels s c)
frame_begun s ok c = from s.lengths (frame s.format c) (omega (arith, ok.thirteen)) (omega arith) (ok.lasting 0 (omega arith))
  where
    held_first : (n : ℕ) (ns : List ℕ) (b : Level) (bs : List Level) → 0 < n → Begun (held (n ∷ ns) (b ∷ bs))
    held_first zero ns b bs h = absurd (omega arith)
    held_first (suc n) ns b bs h = record { first = b; rest = replicate n b ++ held ns bs; is = refl }

    from : (ns : List ℕ) (bs : List Level) → 0 < length ns → 0 < length bs → 0 < get_or ns 0 0 → Begun (held ns bs)
    from [] bs h k p = absurd (omega arith)
    from (n ∷ ns) [] h k p = absurd (omega arith)
    from (n ∷ ns) (b ∷ bs) h k p = held_first n ns b bs p

pub frames_held : (s : SenderState) (l : List Level) (w cs : List ℕ) → frames (holding s l w) cs ≡ frames s cs
frames_held s l w [] = refl
frames_held s l w (c ∷ cs) = ap {B = List Level} (λ x. frame_levels s c ++ x) (frames_held s l w cs)

-- one clock
due_one : (s : SenderState) → ((c : ℕ) → Begun (frame_levels s c)) → (l : List Level) (w : List ℕ)
    → (sent (holding s l w) ≡ get_or (l ++ frames s w) 0 Mark) × (due (after_send (holding s l w)) ≡ drop 1 (l ++ frames s w))
due_one s begun (x ∷ l) w = (refl, ap {B = List Level} (λ fs. l ++ fs) (frames_held s l w w))
due_one s begun [] [] = (refl, refl)
due_one s begun [] (c ∷ cs) =
    let f : List Level = frame_levels s c in
    let x = go f (frames s cs) (begun c) in
    (x.0, ap {B = List Level} (λ fs. rest_of f ++ fs) (frames_held s (rest_of f) cs cs) ∙ x.1)
  where
    go : (ls fs : List Level) → Begun ls → (first_of ls ≡ get_or (ls ++ fs) 0 Mark) × (rest_of ls ++ fs ≡ drop 1 (ls ++ fs))
    go [] fs b = cc
    go (x ∷ xs) fs b = (refl, refl)

-- what a clock leaves as it was
fixed : (s : SenderState) (c : ℕ) → frame_levels (after_send s) c ≡ frame_levels s c
fixed s c = go s.left s.waiting
  where
    go : (l : List Level) (w : List ℕ) → frame_levels (after_send (holding s l w)) c ≡ frame_levels s c
    go (x ∷ l) w = refl
    go [] [] = refl
    go [] (d ∷ w) = refl

pub sends : (s : SenderState) → ((c : ℕ) → Begun (frame_levels s c)) → (n : ℕ) → Sends s n
sends s begun zero = record { level = (due_one s begun s.left s.waiting).0; rest = refl }
sends s begun (suc n) =
    let one = (due_one s begun s.left s.waiting).1 in
    let more = sends (after_send s) (λ c. still c (begun c)) n in
    record {
      level = more.level ∙ ap (λ (l : List Level). get_or l n Mark) one ∙ at_next (due s);
      rest = more.rest ∙ ap (λ (l : List Level). drop n l) one ∙ drop_next (due s);
    }
  where
    still : (c : ℕ) → Begun (frame_levels s c) → Begun (frame_levels (after_send s) c)
    still c b = record { first = b.first; rest = b.rest; is = fixed s c ∙ b.is }

    at_next : (l : List Level) → get_or (drop 1 l) n Mark ≡ get_or l (suc n) Mark
    at_next [] = refl
    at_next (x ∷ l) = refl

    drop_next : (l : List Level) → drop n (drop 1 l) ≡ drop (suc n) l
    drop_next [] = drop-nil n
    drop_next (x ∷ l) = refl

after_one_more : (s : SenderState) (n : ℕ) → after_sends s (suc n) ≡ after_send (after_sends s n)
after_one_more s zero = refl
after_one_more s (suc n) = after_one_more (after_send s) n

spoken_push : (s : SenderState) (n : ℕ) → spoken s (suc n) ≡ spoken s n ++ (sent (after_sends s n) ∷ [])
spoken_push s zero = refl
spoken_push s (suc n) = ap {B = List Level} (λ l. sent s ∷ l) (spoken_push (after_send s) n)

spoken_length : (s : SenderState) (n : ℕ) → length (spoken s n) ≡ n
spoken_length s zero = refl
spoken_length s (suc n) = ap suc (spoken_length (after_send s) n)

-- one clock more, of a sender that has come to be u
module _ (s : SenderState) (n : ℕ) (u : SenderState) (is : u ≡ after_sends s n) where
  pub one_send : after_send u ≡ after_sends s (n + 1)
  one_send = ap after_send is ∙ sym (after_one_more s n) ∙ ap (after_sends s) (one n)
    where
      one : (n : ℕ) → suc n ≡ n + 1
      one n = omega arith

  pub spoken_more : (l : Level) (old now : List Level) → n < length old → l ≡ sent u → now ≡ spoken s n ++ drop n old
      → set now n l ≡ spoken s (n + 1) ++ drop (n + 1) old
  spoken_more l old now within level written =
      ap (λ (x : List Level). set x n l) (written ∙ ap {B = List Level} (λ x. spoken s n ++ x) (drop_more old n Mark within))
      ∙ set_at (spoken s n) (get_or old n Mark) (drop (n + 1) old) l n (spoken_length s n)
      ∙ sym (append_assoc (spoken s n) (l ∷ []) (drop (n + 1) old))
      ∙ ap {B = List Level} (λ x. x ++ drop (n + 1) old) (ap {B = List Level} (λ x. spoken s n ++ (x ∷ [])) (level ∙ ap sent is) ∙ sym (spoken_push s n) ∙ ap (spoken s) (one n))
    where
      one : (n : ℕ) → suc n ≡ n + 1
      one n = omega arith
