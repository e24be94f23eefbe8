-- The table of built-in settings.
use Rattle.std.specs.Prelude.{◌≡◌, ℕ, ◌<◌, ◌≤◌, ◌&&◌, List, [], ◌∷◌, Some, None, Option, ◌==◌, slice_index_or, find}
use Rattle.usart.specs.declared.settings.Settings.{Settings}
use Rattle.usart.specs.declared.built.Row.{Row}

-- a clock in hertz, a baud rate, a divider and a modulator
abbrev pub row : ℕ → ℕ → ℕ → ℕ → Row
row c b u m = record { clock = c; baud = b; divider = u; modulator = m }

abbrev pub blank : Row
blank = row 0 0 0 0

unfoldable pub rows : List Row
rows =
    row 32768 75 436 0xff ∷
    row 32768 110 297 0xff ∷
    row 32768 150 218 0x55 ∷
    row 32768 300 109 0x22 ∷
    row 32768 600 54 0xd5 ∷
    row 32768 1200 27 0x03 ∷
    row 32768 2400 13 0x6b ∷
    row 32768 4800 6 0x6f ∷
    row 32768 9600 3 0x4a ∷
    row 1048576 75 13981 0xff ∷
    row 1048576 110 9532 0xff ∷
    row 1048576 150 6990 0xff ∷
    row 1048576 300 3495 0x00 ∷
    row 1048576 600 1747 0xff ∷
    row 1048576 1200 873 0xff ∷
    row 1048576 2400 436 0xff ∷
    row 1048576 4800 218 0x55 ∷
    row 1048576 9600 109 0x03 ∷
    row 1048576 19200 54 0x6b ∷
    row 1048576 38400 27 0x03 ∷
    row 1048576 76800 13 0x6b ∷
    row 1048576 115200 9 0x08 ∷
    []

-- the row is that of this clock and baud rate
abbrev pub Has : Row → ℕ → ℕ → Type 0
Has r c b = (r.clock ≡ c) × (r.baud ≡ b)

-- its divider and modulator
abbrev pub pair : Row → ℕ × ℕ
pair r = (r.divider, r.modulator)

-- the divider and modulator of some settings, where there are any
abbrev pub found : Option Settings → Option (ℕ × ℕ)
found None = None
found (Some s) = Some (s.divider, s.modulator)

-- the first row with this clock and baud rate
abbrev pub lookup : List Row → ℕ → ℕ → Option Row
lookup rs c b = find (λ r. r.clock == c && r.baud == b) rs

-- no two rows share clock and baud rate
abbrev pub Distinct : Type 0
Distinct = (i j : ℕ) → i < 22 → j < 22 → Has (slice_index_or rows i blank) (slice_index_or rows j blank).clock (slice_index_or rows j blank).baud → i ≡ j

-- the settings of every row are in range
abbrev pub InRange : Type 0
InRange = (k : ℕ) → k < 22 → (3 ≤ (slice_index_or rows k blank).divider) × ((slice_index_or rows k blank).divider ≤ 65535) × ((slice_index_or rows k blank).modulator ≤ 255)
