-- Where acts lead from a link at rest, and that a quiet link is at rest.
use Rattle.std.proofs.Common.{◌≡◌, ℕ, Bool, true, false, if◌then◌else◌, List, [], ◌∷◌, ◌++◌, reverse, sym, refl, ap, ◌∙◌, subst, ap₂}
use mathlib.Core.List.{reverse_aux}
use Rattle.line.specs.declared.level.Level.{Level}
use Rattle.line.specs.declared.level.Level.TheVariants.{Space, Mark}
use Rattle.link.specs.declared.act.Act.{Act}
use Rattle.link.specs.declared.act.Act.TheVariants.{Load, Send, Receive, Noise, Read}
use Rattle.ends.specs.Sender.{SenderState, SoundSender, frame_levels, first_of, rest_of, holding, load_answer, accepted}
use Rattle.ends.specs.Receiver.{ReceiverState, SoundReceiver, Entry, Doing, idle, framing, counting, Heard, heard, with, arrive, without_oldest}
use Rattle.line.specs.Formats.{agree}
use Rattle.link.specs.Link.{LinkState, AtRest, linked, after_act, after}
use Rattle.link.specs.History.{given_levels}
use Rattle.link.specs.Delivery.{Quiet}
use Rattle.link.proofs.Rest.{last_level, frame_ends, Settled, settled_clock, settled_rest, mark_not_space}

-- a link with the fixed parts of m
abbrev pub link : LinkState → List Level → List ℕ → List Entry → Level → Doing → Level → LinkState
link m lf w us p d l = linked (holding m.sender lf w) (with m.receiver us p d) l

-- what a receiver hears hangs on its fixed parts only
pub heard_fixed : (r : ReceiverState) (us : List Entry) (q : Level) (c : Doing) (p : Level) (d : Doing) (l : Level) → heard (with r us q c) p d l ≡ heard r p d l
heard_fixed r us q c Mark idle Space = refl
heard_fixed r us q c Mark idle Mark = refl
heard_fixed r us q c Space idle l = refl
heard_fixed r us q c p (framing n xs) l = refl
heard_fixed r us q c p (counting n) Mark = refl
heard_fixed r us q c Mark (counting n) Space = refl
heard_fixed r us q c Space (counting n) Space = refl

pub loaded : (m : LinkState) (lf : List Level) (w : List ℕ) (us : List Entry) (p : Level) (d : Doing) (l : Level) (c : ℕ)
    → (v : List ℕ) × (after_act (link m lf w us p d l) (Load c) ≡ link m lf v us p d l)
loaded m lf w us p d l c = go (agree m.sender.format m.receiver.format) (accepted (load_answer (holding m.sender lf w) c))
  where
    s : SenderState
    s = holding m.sender lf w

    go : (a b : Bool) → (v : List ℕ) × (linked (if a then (if b then holding m.sender lf (w ++ (c ∷ [])) else s) else s) (with m.receiver us p d) l ≡ link m lf v us p d l)
    go true true = (w ++ (c ∷ []), refl)
    go true false = (w, refl)
    go false b = (w, refl)

pub record Reached (m x : LinkState) (ls : List Level) : Type 0 where
  pub left : List Level
  pub waiting : List ℕ
  pub unread : List Entry
  pub previous : Level
  pub doing : Doing
  pub line : Level
  pub is : x ≡ link m left waiting unread previous doing line
  pub ends : last_level line left ≡ Mark
  pub settled : Settled m.receiver previous doing ls

module _ (m : LinkState) (oks : SoundSender m.sender) (okr : SoundReceiver m.receiver) where
  reach : (xs : List Act) (lf : List Level) (w : List ℕ) (us : List Entry) (p : Level) (d : Doing) (l : Level) (ls : List Level)
      → last_level l lf ≡ Mark → Settled m.receiver p d ls
      → Reached m (after (link m lf w us p d l) xs) (reverse_aux (given_levels (link m lf w us p d l) xs) ls)
  reach [] lf w us p d l ls e t = record { left = lf; waiting = w; unread = us; previous = p; doing = d; line = l; is = refl; ends = e; settled = t }
  reach (Load c ∷ xs) lf w us p d l ls e t =
      let v = loaded m lf w us p d l c in
      subst (λ (y : LinkState). Reached m (after y xs) (reverse_aux (given_levels y xs) ls)) (sym v.1) (reach xs lf v.0 us p d l ls e t)
  reach (Send ∷ xs) (x ∷ lf) w us p d l ls e t = reach xs lf w us p d x ls e t
  reach (Send ∷ xs) [] [] us p d l ls e t = reach xs [] [] us p d Mark ls refl t
  reach (Send ∷ xs) [] (c ∷ w) us p d l ls e t =
      reach xs (rest_of (frame_levels m.sender c)) w us p d (first_of (frame_levels m.sender c)) ls (frame_ends m.sender oks c) t
  reach (Receive ∷ xs) lf w us p d l ls e t =
      reach xs lf w (arrive m.receiver.capacity us (heard (with m.receiver us p d) p d l).arrived) l (heard (with m.receiver us p d) p d l).doing l (l ∷ ls) e
      (subst (λ (y : Heard). Settled m.receiver l y.doing (l ∷ ls)) (sym (heard_fixed m.receiver us p d p d l)) (settled_clock m.receiver okr p d l ls t))
  reach (Noise k ∷ xs) lf w us p d l ls e t =
      reach xs lf w (arrive m.receiver.capacity us (heard (with m.receiver us p d) p d k).arrived) k (heard (with m.receiver us p d) p d k).doing l (k ∷ ls) e
      (subst (λ (y : Heard). Settled m.receiver k y.doing (k ∷ ls)) (sym (heard_fixed m.receiver us p d p d k)) (settled_clock m.receiver okr p d k ls t))
  reach (Read ∷ xs) lf w us p d l ls e t = reach xs lf w (without_oldest us) p d l ls e t

  -- a quiet link is as at rest, with the same fixed parts
  pub quiet_rests : AtRest m → (xs : List Act) → Quiet m xs → after m xs ≡ link m [] [] [] Mark idle Mark
  quiet_rests rest xs quiet =
      let r : ReceiverState = m.receiver in
      let start : Settled r r.previous r.doing [] =
      subst (λ (d : Doing). Settled r r.previous d []) (sym rest.no_frame) (λ e z. mark_not_space (sym rest.marked ∙ e)) in
      let x : Reached m (after m xs) (reverse (given_levels m xs)) =
      reach xs m.sender.left m.sender.waiting r.unread r.previous r.doing m.line []
      (ap₂ (λ (a : Level) (b : List Level). last_level a b) rest.line rest.no_level) start in
      let e1 : x.left ≡ [] = ap (λ (y : LinkState). y.sender.left) (sym x.is) ∙ quiet.no_level in
      let e2 : x.waiting ≡ [] = ap (λ (y : LinkState). y.sender.waiting) (sym x.is) ∙ quiet.no_waiting in
      let e3 : x.unread ≡ [] = ap (λ (y : LinkState). y.receiver.unread) (sym x.is) ∙ quiet.no_unread in
      let e4 : (x.doing ≡ idle) × (x.previous ≡ Mark) = settled_rest r x.previous x.doing (reverse (given_levels m xs)) x.settled quiet.marks in
      let e5 : x.line ≡ Mark = subst (λ (y : List Level). last_level x.line y ≡ Mark) e1 x.ends in
      x.is
      ∙ ap (λ (y : List Level). link m y x.waiting x.unread x.previous x.doing x.line) e1
      ∙ ap (λ (y : List ℕ). link m [] y x.unread x.previous x.doing x.line) e2
      ∙ ap (λ (y : List Entry). link m [] [] y x.previous x.doing x.line) e3
      ∙ ap (λ (y : Level). link m [] [] [] y x.doing x.line) e4.1
      ∙ ap (λ (y : Doing). link m [] [] [] Mark y x.line) e4.0
      ∙ ap (λ (y : Level). link m [] [] [] Mark idle y) e5
