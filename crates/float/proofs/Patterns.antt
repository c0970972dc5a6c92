-- What the patterns of a format stand for, in the format's smallest values (units): below the first exponent's field the pattern itself, above it the digits with
-- their leading one, moved up by the field. The sign's bit negates. Assumes nothing.
use mathlib.Core.Path.{◌≡◌, refl, sym, ap, ◌∙◌, subst}
use Prim.Native.Nat.{ℕ, zero, suc, ◌+◌, ◌-◌, ◌*◌, ◌/◌, ◌%◌, ◌^◌, ◌≤◌, ◌<◌}
use native.Mathlib.Nat.{mul_comm, mul-one, mul-lt-mul_of_pos_right, mod-eq_of_lt, div-eq_of_lt, le-div_iff_mul-le, div-lt_iff_lt-mul, le-add_right, add-mod_left, mul-add-mod_self_left, one-mul, lt_trans, lt-suc_self}
use native.Mathlib.Omega.{arith}
use mathlib.Core.Bool.{Bool, true, false, cond}
use lib.Arith.{lt→nleb}
use lib.Dec.{leb, eqb, eqb→eq, not_T, le→leb}
use lib.Pow.{pow_pos}
use lib.Ieee.{Float, nan, inf, Format, prec, low, odd, neg, hid, ones, top, of_fields, of_bits}
use lib.Ieee.Bits.{is_true, is_false, cond_no}
use lib.Ieee.Exact.{HasValue, odd_sign}
use Rattle.float.proofs.Rounded.{odd_neg}

of_bits_is : (f : Format) (b : ℕ) → of_bits f b ≡ of_fields f (leb (top f) b) (b % top f / hid f) (b % hid f)
unfolding of_bits
of_bits_is f b = refl

-- ---- with no sign
unsigned : (f : Format) (b : ℕ) → b < top f → of_bits f b ≡ of_fields f false (b / hid f) (b % hid f)
unsigned f b h =
    of_bits_is f b
    ∙ ap (λ (s : Bool). of_fields f s (b % top f / hid f) (b % hid f)) (is_false (leb (top f) b) (lt→nleb (top f) b h))
    ∙ ap (λ (x : ℕ). of_fields f false (x / hid f) (b % hid f)) (mod-eq_of_lt h)

-- a pattern below the infinities' is below the sign's bit
below_top : (f : Format) (b : ℕ) → b < ones f * hid f → b < top f
below_top f b h = lt_trans h (subst (λ (x : ℕ). ones f * hid f < x) (mul_comm (suc (ones f)) (hid f)) (mul-lt-mul_of_pos_right (lt-suc_self (ones f)) (pow_pos (prec f - 1))))

low_field : (f : Format) (s : Bool) (t : ℕ) → of_fields f s 0 t ≡ odd (prec f) s t 0 (low f)
unfolding of_fields
low_field f s t = refl

pub units_low : (f : Format) (b : ℕ) → b < hid f → b < ones f * hid f → HasValue (of_bits f b) false b (2 ^ low f)
units_low f b h l =
    subst (λ (x : Float). HasValue x false b (2 ^ low f))
    (sym (unsigned f b (below_top f b l) ∙ ap (λ (x : ℕ). of_fields f false x (b % hid f)) (div-eq_of_lt h) ∙ ap (λ (t : ℕ). of_fields f false 0 t) (mod-eq_of_lt h) ∙ low_field f false b))
    (subst (λ (a : ℕ). HasValue (odd (prec f) false b 0 (low f)) false a (2 ^ low f)) (mul-one b) (odd_sign (prec f) false b 0 (low f)))

differ : (x o : ℕ) → x < o → x ≡ o → ⊥
differ x o h e = omega arith

high_field : (f : Format) (s : Bool) (t x : ℕ) → 0 < x → x < ones f → of_fields f s x t ≡ odd (prec f) s (hid f + t) (x - 1) (low f)
unfolding of_fields
high_field f s t zero P h = absurd (no_less P)
  where
    no_less : 0 < 0 → ⊥
    no_less l = omega arith
high_field f s t (suc x) P h =
    cond_no (eqb (suc x) (ones f)) (cond (eqb t 0) (inf s) nan) (odd (prec f) s (hid f + t) x (low f)) (not_T (eqb (suc x) (ones f)) (λ u. differ (suc x) (ones f) h (eqb→eq (suc x) (ones f) u)))
    ∙ ap (λ (y : ℕ). odd (prec f) s (hid f + t) y (low f)) (pred x)
  where
    pred : (x : ℕ) → x ≡ suc x - 1
    pred x = omega arith

pub units_high : (f : Format) (b : ℕ) → hid f ≤ b → b < ones f * hid f → HasValue (of_bits f b) false ((hid f + b % hid f) * 2 ^ (b / hid f - 1)) (2 ^ low f)
units_high f b h l =
    let H : 0 < hid f = pow_pos (prec f - 1) in
    let x = b / hid f in
    subst (λ (v : Float). HasValue v false ((hid f + b % hid f) * 2 ^ (x - 1)) (2 ^ low f))
    (sym (unsigned f b (below_top f b l) ∙ high_field f false (b % hid f) x ((le-div_iff_mul-le H).1 (subst (λ (y : ℕ). y ≤ b) (sym (one-mul (hid f))) h)) ((div-lt_iff_lt-mul H).1 l)))
    (odd_sign (prec f) false (hid f + b % hid f) (x - 1) (low f))

-- ---- the sign
fields_neg : (f : Format) (x t : ℕ) → of_fields f true x t ≡ neg (of_fields f false x t)
unfolding of_fields neg
fields_neg f zero t = odd_neg (prec f) false t 0 (low f)
fields_neg f (suc x) t = go (eqb (suc x) (ones f)) (eqb t 0)
  where
    go : (a b : Bool) → cond a (cond b (inf true) nan) (odd (prec f) true (hid f + t) x (low f)) ≡ neg (cond a (cond b (inf false) nan) (odd (prec f) false (hid f + t) x (low f)))
    go true true = refl
    go true false = refl
    go false b = odd_neg (prec f) false (hid f + t) x (low f)

pub of_bits_neg : (f : Format) (b : ℕ) → b < top f → of_bits f (top f + b) ≡ neg (of_bits f b)
of_bits_neg f b h =
    of_bits_is f (top f + b)
    ∙ ap (λ (s : Bool). of_fields f s ((top f + b) % top f / hid f) ((top f + b) % hid f)) (is_true (leb (top f) (top f + b)) (le→leb (top f) (top f + b) (le-add_right (top f) b)))
    ∙ ap (λ (x : ℕ). of_fields f true (x / hid f) ((top f + b) % hid f)) (add-mod_left (top f) b ∙ mod-eq_of_lt h)
    ∙ ap (λ (t : ℕ). of_fields f true (b / hid f) t) (mul-add-mod_self_left (hid f) (suc (ones f)) b)
    ∙ fields_neg f (b / hid f) (b % hid f)
    ∙ ap neg (sym (unsigned f b h))
