-- What is loaded into URXBUF is what a bare receiver takes down.
use Rattle.std.proofs.Common.{◌≡◌, ℕ, ◌≤◌, Bool, true, false, if◌then◌else◌, not, ◌&&◌, ◌||◌, List, [], ◌∷◌, ◌++◌, length, map, filter, Some, Option, sym, refl, ap, ◌∙◌, subst, ap₂, arith}
use Rattle.std.specs.List.{list_any}
use Rattle.std.proofs.Math.Bool.{or-false}
use Rattle.line.specs.declared.level.Level.{Level}
use Rattle.ends.specs.Sender.{empty, after_send}
use Rattle.ends.specs.Receiver.{ReceiverState, Entry, hears, after_clock as heard_clock, without_oldest}
use Rattle.ends.specs.Runs.{taken_down}
use Rattle.ends.proofs.Reading.{one_at_most, unread_apart}
use Rattle.chip.specs.declared.mode.Mode.{Mode}
use Rattle.chip.specs.declared.transmit.Transmit.{Transmit}
use Rattle.chip.specs.declared.receive.Receive.{Receive}
use Rattle.chip.specs.declared.rate.Rate.{Rate}
use Rattle.chip.specs.Bytes.{has}
use Rattle.chip.specs.Receiving.{address_bit, noticed, let_through, byte_in, taken, all_taken, cleared}
use Rattle.chip.specs.Pairs.{EndsState, seen, arrivals, ends_clocked}
use Rattle.chip.specs.Chips.{ChipState, leaves, done, after_read}
use Rattle.chip.specs.Laws.{seen_levels, admitted, polled, after_clocks, last_of, overruns, Loaded, wake_after, Flagged, Receives}

seen_more : (e : EndsState) (listen : Bool) (l : Level) (ls : List Level)
    → seen_levels e listen (l ∷ ls) ≡ seen e listen l ∷ seen_levels (ends_clocked e listen l) listen ls
seen_more e true l ls = refl
seen_more e false l ls = refl

seen_none : (e : EndsState) (listen : Bool) → seen_levels e listen [] ≡ []
seen_none e true = refl
seen_none e false = refl

module _ (m : Mode) (t : Transmit) (q : Rate) where
  abbrev chip : Receive → Bool → Bool → EndsState → ChipState
  chip r u x e = record { mode = m; transmit = t; receive = r; rate = q; utxifg = u; txept = x; ends = Some e }

  abbrev next : EndsState → Level → EndsState
  next e l = ends_clocked e m.listen l

  abbrev entries : EndsState → List Level → List Entry
  entries e ls = taken_down e.receiver (seen_levels e m.listen ls)

  entries_none : (e : EndsState) → entries e [] ≡ []
  entries_none e = ap (taken_down e.receiver) (seen_none e m.listen)

  -- what is taken down comes clock by clock
  entries_more : (e : EndsState) (l : Level) (ls : List Level) → entries e (l ∷ ls) ≡ arrivals e m.listen l ++ entries (next e l) ls
  entries_more e l ls =
      let now_seen : Level = seen e m.listen l in
      let r : ReceiverState = heard_clock e.receiver now_seen in
      ap (taken_down e.receiver) (seen_more e m.listen l ls)
      ∙ ap {B = List Entry} (λ es. (hears e.receiver now_seen).arrived ++ es) (sym (unread_apart r (without_oldest r.unread) (seen_levels (next e l) m.listen ls)))

  -- firmware reads what has just been let through
  read_entry : (r : Receive) (y : Entry) (fs : List Entry) (p s : List ℕ) → r.urxifg ≡ false → p ≡ map (byte_in m) fs → (let_through m r y ≡ false → s ≡ map (byte_in m) fs)
      → (if (taken m r y).urxifg then (taken m r y).urxbuf ∷ p else s) ≡ map (byte_in m) (if let_through m r y then y ∷ fs else fs)
  read_entry r y fs p s off loads skips = go (let_through m r y) refl
    where
      go : (b : Bool) → let_through m r y ≡ b → (if r.urxifg || b then (if b then byte_in m y else r.urxbuf) ∷ p else s) ≡ map (byte_in m) (if b then y ∷ fs else fs)
      go true is = ap (λ (f : Bool). if f || true then byte_in m y ∷ p else s) off ∙ ap {B = List ℕ} (λ bs. byte_in m y ∷ bs) loads
      go false is = ap (λ (f : Bool). if f || false then r.urxbuf ∷ p else s) off ∙ skips is

  -- one clock, from what holds of the clocks after it
  module _ (l : Level) (ls : List Level) (r : Receive) (v w : Bool) (e : EndsState) where
    read_more : r.urxifg ≡ false → ((s : Receive) → s.urxifg ≡ false → polled (chip s v w e) ls ≡ admitted m s (entries e ls)) → (es : List Entry) → length es ≤ 1
        → (let d : ChipState = chip (all_taken m r es) v w e in
        (if d.receive.urxifg then d.receive.urxbuf ∷ polled (after_read d 0x76) ls else polled d ls)) ≡ admitted m r (es ++ entries e ls)
    read_more off on [] few = ap (λ (f : Bool). if f then r.urxbuf ∷ polled (after_read (chip r v w e) 0x76) ls else polled (chip r v w e) ls) off ∙ on r off
    read_more off on (y ∷ []) few = read_entry r y (filter (let_through m r) (entries e ls)) _ _ off (on (cleared (taken m r y)) refl)
        (λ skipped. on (taken m r y) (ap₂ {C = Bool} (λ a b. a || b) off skipped))
    read_more off on (y ∷ (z ∷ es)) few = absurd (omega arith)

  pub read_all : (ls : List Level) (r : Receive) (u x : Bool) (e : EndsState) → r.urxifg ≡ false → polled (chip r u x e) ls ≡ admitted m r (entries e ls)
  read_all [] r u x e off = sym (ap (admitted m r) (entries_none e))
  read_all (l ∷ ls) r u x e off =
      let v : Bool = u || leaves e.sender in
      let w : Bool = x || done (after_send e.sender) in
      read_more l ls r v w (next e l) off (λ s ready. read_all ls s v w (next e l) ready) (arrivals e m.listen l) (one_at_most e.receiver (seen e m.listen l))
      ∙ sym (ap (admitted m r) (entries_more e l ls))

  -- what all the clocks do to the receive side
  taken_then : (r : Receive) (es fs : List Entry) → all_taken m r (es ++ fs) ≡ all_taken m (all_taken m r es) fs
  taken_then r [] fs = refl
  taken_then r (y ∷ es) fs = taken_then (taken m r y) es fs

  pub clocks_take : (ls : List Level) (r : Receive) (u x : Bool) (e : EndsState) → (after_clocks (chip r u x e) ls).receive ≡ all_taken m r (entries e ls)
  clocks_take [] r u x e = sym (ap (all_taken m r) (entries_none e))
  clocks_take (l ∷ ls) r u x e =
      let es : List Entry = arrivals e m.listen l in
      clocks_take ls (all_taken m r es) (u || leaves e.sender) (x || done (after_send e.sender)) (next e l)
      ∙ sym (taken_then r es (entries (next e l) ls)) ∙ sym (ap (all_taken m r) (entries_more e l ls))

  -- an entry more, whose byte is loaded where it is let through
  load_entry : (r out : Receive) (y : Entry) (fs : List Entry) → Loaded (taken m r y) out (map (byte_in m) fs) → Loaded r out (map (byte_in m) (if let_through m r y then y ∷ fs else fs))
  load_entry r out y fs more = go (let_through m r y) more.buffer more.flag more.overrun
    where
      a : List ℕ
      a = map (byte_in m) fs

      flags : (i : Bool) → (i || true) || not (empty a) ≡ i || true
      flags true = refl
      flags false = refl

      overrun : (o i : Bool) → (o || i) || overruns (i || true) a ≡ o || (i || overruns true a)
      overrun true i = refl
      overrun false true = refl
      overrun false false = refl

      go : (b : Bool) → out.urxbuf ≡ last_of (if b then byte_in m y else r.urxbuf) a → out.urxifg ≡ (r.urxifg || b) || not (empty a)
          → out.oe ≡ (r.oe || (b && r.urxifg)) || overruns (r.urxifg || b) a → Loaded r out (map (byte_in m) (if b then y ∷ fs else fs))
      go true buffer flag over = record { buffer = buffer; flag = flag ∙ flags r.urxifg; overrun = over ∙ overrun r.oe r.urxifg }
      go false buffer flag over = record {
        buffer = buffer;
        flag = flag ∙ ap (λ (i : Bool). i || not (empty a)) (or-false r.urxifg);
        overrun = over ∙ ap₂ {C = Bool} (λ o i. o || overruns i a) (or-false r.oe) (or-false r.urxifg);
      }

  pub load_all : (r : Receive) (es : List Entry) → Loaded r (all_taken m r es) (admitted m r es)
  load_all r [] = record { buffer = refl; flag = sym (or-false r.urxifg); overrun = sym (or-false r.oe) }
  load_all r (y ∷ es) = load_entry r (all_taken m (taken m r y) es) y (filter (let_through m r) es) (load_all (taken m r y) es)

  -- an entry more, whose flags stand where it has an effect
  flag_entry : (flag : ℕ) (y : Entry) (fs : List Entry) (before b : Bool)
      → (before || (b && has y.1 flag)) || list_any (λ x. has x.1 flag) fs ≡ before || list_any (λ x. has x.1 flag) (if b then y ∷ fs else fs)
  flag_entry flag y fs true b = refl
  flag_entry flag y fs false true = refl
  flag_entry flag y fs false false = refl

  wake_entry : (y : Entry) (fs : List Entry) (before b : Bool) → wake_after m (if b && m.mm then address_bit m y else before) fs ≡ wake_after m before (if b then y ∷ fs else fs)
  wake_entry y fs before true = refl
  wake_entry y fs before false = refl

  pub flag_all : (r : Receive) (es : List Entry) → Flagged m r (all_taken m r es) es
  flag_all r [] = record { fe = sym (or-false r.fe); pe = sym (or-false r.pe); brk = sym (or-false r.brk); rxwake = refl }
  flag_all r (y ∷ es) =
      let more = flag_all (taken m r y) es in
      let has_effect : List Entry = filter (noticed m r) es in
      record {
        fe = more.fe ∙ flag_entry 4 y has_effect r.fe (noticed m r y);
        pe = more.pe ∙ flag_entry 2 y has_effect r.pe (noticed m r y);
        brk = more.brk ∙ flag_entry 8 y has_effect r.brk (noticed m r y);
        rxwake = more.rxwake ∙ wake_entry y (filter (let_through m r) es) r.rxwake (let_through m r y);
      }

pub receives : (c : ChipState) (e : EndsState) → c.ends ≡ Some e → (ls : List Level) → Receives c e ls
receives c e is ls =
    let whole : Option EndsState → ChipState = λ o. record {
      mode = c.mode;
      transmit = c.transmit;
      receive = c.receive;
      rate = c.rate;
      utxifg = c.utxifg;
      txept = c.txept;
      ends = o;
    } in
    let es : List Entry = entries c.mode c.transmit c.rate e ls in
    let all : (after_clocks (whole (Some e)) ls).receive ≡ all_taken c.mode c.receive es = clocks_take c.mode c.transmit c.rate ls c.receive c.utxifg c.txept e in
    subst (λ (o : Option EndsState). Receives (whole o) e ls) (sym is) (record {
      read = λ off. read_all c.mode c.transmit c.rate ls c.receive c.utxifg c.txept e off;
      unread = subst (λ (r : Receive). Loaded c.receive r (admitted c.mode c.receive es)) (sym all) (load_all c.mode c.transmit c.rate c.receive es);
      flags = subst (λ (r : Receive). Flagged c.mode c.receive r es) (sym all) (flag_all c.mode c.transmit c.rate c.receive es);
    })
