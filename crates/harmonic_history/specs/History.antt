-- The history of harmonic inputs, oldest first, of which the first places are in use: as many as the lags reach back.
-- §2.12 (eq. 19); document 01, B61; document 02, E6.4. Assumes nothing.
use Rattle.std.specs.Prelude.{ℕ, ◌-◌, List, length, take, drop, Float}

-- how many places there are: as far as the longest lag of all reaches back
abbrev pub places : ℕ
places = 145

-- what is in use, and what is not
abbrev pub used : ℕ → List Float → List Float
used reach hist = take reach hist

abbrev pub unused : ℕ → List Float → List Float
unused reach hist = drop reach hist

-- the last n of a list
abbrev pub last : {A : Type 0} → ℕ → List A → List A
last n xs = drop (length xs - n) xs
