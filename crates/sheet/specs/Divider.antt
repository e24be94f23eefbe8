-- The divider whose bit length is nearest to that of a baud rate.
use Rattle.std.specs.Prelude.{ℕ, ◌+◌, ◌-◌, ◌*◌, ◌/◌, ◌≤◌, ◌||◌, Ok, Err, Result, ◌==◌, nat_lt, if◌then◌else◌}
use Rattle.line.specs.declared.refusal.Refusal.{Refusal}
use Rattle.line.specs.declared.refusal.Refusal.TheVariants.{OutOfRange}

-- how far two numbers are apart
abbrev pub apart : ℕ → ℕ → ℕ
apart m n = (m - n) + (n - m)

-- With divider d a bit of the port's lasts 16 × d clocks; with the baud rate it should last hertz ÷ baud. No divider is nearer.
abbrev pub Nearest : ℕ → ℕ → ℕ → Type 0
Nearest hertz baud d = (other : ℕ) → apart (16 * baud * d) hertz ≤ apart (16 * baud * other) hertz

abbrev pub rounded : ℕ → ℕ → ℕ
rounded hertz unit = (hertz + unit / 2) / unit

abbrev pub nearest : ℕ → ℕ → Result ℕ Refusal
nearest hertz baud =
    if 16 * baud == 0 then Err OutOfRange
    else (if nat_lt (rounded hertz (16 * baud)) 1 || nat_lt 4096 (rounded hertz (16 * baud)) then Err OutOfRange else Ok (rounded hertz (16 * baud)))
