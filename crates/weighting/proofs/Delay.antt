-- A delay holds a memory: at its start the one given, and one sample later that memory with the new value first.
-- Assumes nothing.
use mathlib.Core.Path.{◌≡◌, sym, ap, ◌∙◌}
use mathlib.Core.List.{List, [], ◌∷◌, ◌++◌, reverse}
use Prim.Native.Nat.{ℕ, suc, ◌+◌, ◌-◌, ◌≤◌, ◌<◌}
use native.Mathlib.Omega.{arith}
use lib.ListN.{length, take, drop, set, length-drop}
use lib.Seq.{ext_get_or, length-take-le, get_or-set_same, get_or-set_other, get_or-take, get_or-drop}
use Rattle.std.proofs.lemmas.List.{append-nil, drop_all, drop_at, length-append, length-reverse, get_or-reverse, get_or_append_left}
use lib.Ieee.{Float, nan}
use borrow.Rule.Slice.PartMut.{put_mid}
use Rattle.float.specs.Table.{table}
use Rattle.float.specs.Vector.{at}
use Rattle.float.proofs.Table.{length_table, at_table, same_table, table_first, take_table, table_entries}
use Rattle.weighting.specs.Filter.{later}
use Rattle.weighting.specs.inner.Delay.{behind, Delay}

-- ---- delays
pub at_behind : (n : ℕ) (delay : List Float) (k : ℕ) → k < 10 → at (behind n delay) k ≡ at delay (n + 9 - k)
unfolding behind
at_behind n delay k h = at_table 10 (λ i. at delay (n + 9 - i)) k nan h

-- one sample later the memory has that sample first
pub behind_next : (n : ℕ) (delay : List Float) → behind (n + 1) delay ≡ later (at delay (n + 10)) (behind n delay)
unfolding behind
behind_next n delay =
    let e : n + 1 + 9 - 0 ≡ n + 10 = omega arith in
    table_first 9 (λ i. at delay (n + 1 + 9 - i))
    ∙ ap (λ (j : ℕ). at delay j ∷ table 9 (λ i. at delay (n + 1 + 9 - suc i))) e
    ∙ ap (λ (l : List Float). at delay (n + 10) ∷ l)
    (same_table 9 (λ i. at delay (n + 1 + 9 - suc i)) (λ i. at delay (n + 9 - i))
    (λ i l.
    let d : n + 1 + 9 - suc i ≡ n + 9 - i = omega arith in
    ap (at delay) d)
    ∙ sym (take_table 9 (λ i. at delay (n + 9 - i))))

-- what is stored from sample n on does not change the memory before it
pub behind_set : (n j : ℕ) (delay : List Float) (v : Float) → n + 9 < j → behind n (set delay j v) ≡ behind n delay
unfolding behind
behind_set n j delay v h = same_table 10 (λ i. at (set delay j v) (n + 9 - i)) (λ i. at delay (n + 9 - i)) (λ i l. get_or-set_other delay j (n + 9 - i) v nan (λ q. omega arith))

-- sample n stored
pub behind_more : (n : ℕ) (delay : List Float) (v : Float) → n + 10 < length delay
    → behind (n + 1) (set delay (n + 10) v) ≡ later v (behind n delay)
behind_more n delay v h = behind_next n (set delay (n + 10) v) ∙ rw (get_or-set_same delay (n + 10) v nan h, behind_set n (n + 10) delay v (omega arith))

-- ---- a memory turned, and what stands last in a delay
turned : (n : ℕ) (xs : List Float) → length xs ≡ n → reverse xs ≡ table n (λ k. at xs (n - 1 - k))
turned n xs h =
    ext_get_or nan (reverse xs) (table n (λ k. at xs (n - 1 - k))) (length-reverse xs ∙ h ∙ sym (length_table n (λ k. at xs (n - 1 - k))))
    (λ i l.
    let b : i < n = rw (length-reverse xs ∙ h) at l in
    get_or-reverse xs i nan (omega arith) ∙ rw h (sym (at_table n (λ k. at xs (n - 1 - k)) i nan b)))

pub behind_first : (memory rest : List Float) → length memory ≡ 10 → behind 0 (reverse memory ++ rest) ≡ memory
unfolding behind
behind_first memory rest h =
    same_table 10 (λ k. at (reverse memory ++ rest) (9 - k)) (at memory)
    (λ k l.
    let long : 9 - k < length (reverse memory) = rw (length-reverse memory ∙ h) (omega arith) in
    let there : length memory - 1 - (9 - k) ≡ k = omega arith in
    get_or_append_left (reverse memory) rest nan (9 - k) long ∙ get_or-reverse memory (9 - k) nan (omega arith) ∙ ap (at memory) there)
    ∙ table_entries 10 memory nan h

pub behind_last : (delay : List Float) → length delay ≡ 70 → reverse (drop 60 delay) ≡ behind 60 delay
unfolding behind
behind_last delay h =
    turned 10 (drop 60 delay) (simp length-drop (omega arith))
    ∙ same_table 10 (λ k. at (drop 60 delay) (9 - k)) (λ k. at delay (69 - k))
    (λ k l.
    let there : 60 + (9 - k) ≡ 69 - k = omega arith in
    get_or-drop 60 delay (9 - k) nan ∙ ap (at delay) there)

-- what is put behind a memory does not change it
pub behind_kept : (delay x : List Float) → 10 ≤ length delay → behind 0 (take 10 delay ++ x) ≡ behind 0 delay
unfolding behind
behind_kept delay x h =
    same_table 10 (λ k. at (take 10 delay ++ x) (9 - k)) (λ k. at delay (9 - k))
    (λ k l.
    let long : 9 - k < length (take 10 delay) = rw (length-take-le 10 delay h) (omega arith) in
    get_or_append_left (take 10 delay) x nan (9 - k) long ∙ get_or-take 10 delay (9 - k) nan (omega arith))

-- ---- sixty samples put behind a memory
pub laid : (memory x delay : List Float) → length delay ≡ 70 → length x ≡ 60 → behind 0 delay ≡ memory →
    Delay memory x (put_mid 10 60 delay x)
laid memory x delay h k e =
    let none : drop 60 (drop 10 delay) ≡ [] = drop_all 60 (drop 10 delay) (simp length-drop (omega arith)) in
    let front : length (take 10 delay) ≡ 10 = length-take-le 10 delay (omega arith) in
    rw (none, append-nil) (record {
      long = length-append (take 10 delay) x ∙ rw (front, k);
      start = behind_kept delay x (omega arith) ∙ e;
      rest = drop_at (take 10 delay) x 10 front;
    })
