-- The loop that goes through the lines of a pattern: what holds after k of them, and what each way out leaves. Assumes nothing.
use mathlib.Core.Path.{◌≡◌, refl, sym, ap, ◌∙◌, subst}
use mathlib.Core.Bool.{Bool, true, false, ◌&&◌, cond}
use mathlib.Core.List.{List, [], ◌∷◌, ◌++◌, append_assoc, append-nil}
use Prim.Native.Nat.{ℕ, suc, ◌+◌, ◌*◌, ◌^◌, ◌≤◌, ◌<◌, zero-le}
use native.Mathlib.Nat.{le_trans, le_of_eq, lt_of_le_of_lt}
use native.Mathlib.Omega.{arith}
use lib.Dec.{ltb, lit<, lit≤}
use lib.ListN.{length, get_or, take, drop, length-append, drop_of_length-le}
use lib.Seq.{drop-cons, drop-drop, length-take-le}
use borrow.Author.Tests.{lt-ltb, le-ltb}
use Rattle.trial_text.specs.Pattern.{Entry, lines, entry_of}
use Rattle.trial_print.specs.Printed.{decimal, ended, space, refused, reported, refusal}
use Rattle.trial_text.specs.Pattern.{line_feed}
use Rattle.trial_text.specs.inner.First.{as_read, Read, first_line, after_line, read_at}
use Rattle.trial_print.specs.declared.Printed.{Printed}
use Rattle.trial_print.specs.inner.Put.{HasRoom, Puts}
use Rattle.std.proofs.Common.{Some, None}
use Rattle.trial_text.specs.declared.Entry.{Entry as Made}
use Rattle.trial_text.specs.declared.Read.{Read as MadeRead}
use Rattle.trial_text.specs.Answers.{taken, as_entry}
use Rattle.trial_text.proofs.First.{lines_cut, after_drop}
use Rattle.trial_print.proofs.Decimal.{length_spelt}
use Rattle.trial_text.proofs.Short.{entry_short}
use Rattle.ends_apart.specs.Apart.{apart64}
use Rattle.trial.specs.declared.State.{State}
use Rattle.trial.specs.Losses.{follow, begin, report, most, losses}
use Rattle.trial.specs.inner.Printing.{printed}
use Rattle.ends_apart.specs.inner.Steps.{Steady}
use Rattle.trial.proofs.Live.{Live, live_begin, live_follow, live_few, steady}
use Rattle.trial.proofs.Printing.{printed_all}

-- ---- the line at a place of the text
abbrev line_at : List ℕ → ℕ → List ℕ
line_at text at = first_line (drop at text)

abbrev next_of : List ℕ → ℕ → ℕ
next_of text at = at + length (line_at text at) + 1

cut_at : (text : List ℕ) (at : ℕ) → at < length text → lines (drop at text) ≡ line_at text at ∷ lines (drop (next_of text at) text)
cut_at text at h =
    let cs = drop (suc at) text in
    let e : drop at text ≡ get_or text at 0 ∷ cs = drop-cons text at 0 h in
    ap lines e
    ∙ lines_cut (get_or text at 0) cs
    ∙ ap (λ (s : List ℕ). first_line s ∷ lines (after_line s)) (sym e)
    ∙ ap (λ (s : List ℕ). line_at text at ∷ lines s) (after_drop (drop at text) ∙ drop-drop (suc (length (line_at text at))) at text)
    ∙ ap (λ (n : ℕ). line_at text at ∷ lines (drop n text)) (one_on at (length (line_at text at)))
  where
    one_on : (a n : ℕ) → a + suc n ≡ a + n + 1
    one_on a n = omega arith

-- ---- how much room a line takes
ended_short : (byte d n : ℕ) → n < 10 ^ suc d → length (ended byte n) ≤ suc d + 1
ended_short byte d n h =
    le_trans (le_of_eq (length-append (decimal n) (byte ∷ []))) (more (length (decimal n)) (suc d) (length_spelt 10 d n h))
  where
    more : (a b : ℕ) → a ≤ b → a + 1 ≤ b + 1
    more a b h = omega arith

refusal_short : (k : ℕ) → k < 100000 → length (refusal k) ≤ 17
refusal_short k h =
    le_trans (le_of_eq (length-append refused (ended line_feed k))) (more (length (ended line_feed k)) (ended_short line_feed 4 k h))
  where
    more : (a : ℕ) → a ≤ 6 → 11 + a ≤ 17
    more a h = omega arith

reported_short : (k n q : ℕ) → k < 100000 → n < 100000 → q < 10000000 → length (reported k n q) ≤ 20
reported_short k n q h i j =
    let a = ended space k in
    let b = ended space n in
    let c = ended line_feed q in
    sum (length a) (length b) (length c) (length (a ++ b)) (length (a ++ b ++ c))
    (length-append a b) (length-append (a ++ b) c) (ended_short space 4 k h) (ended_short space 4 n i) (ended_short line_feed 6 q j)
  where
    sum : (a b c d e : ℕ) → d ≡ a + b → e ≡ d + c → a ≤ 6 → b ≤ 6 → c ≤ 8 → e ≤ 20
    sum a b c d e f g h i j = omega arith

-- ---- the loop
pub record Going (before : Printed) (text : List ℕ) (s : State) (at k : ℕ) (p : Printed) : Type 0 where
  pub count : k ≤ 10000
  pub short : p.end ≤ 20 * k
  pub row : s.arrivals ≤ k
  pub start : before.end ≡ 0
  pub room : length before.out.now ≡ 200064
  pub long : length p.out.now ≡ length before.out.now
  pub same : p.out.ghost_name ≡ before.out.ghost_name
  pub live : Live s
  pub whole : take p.end p.out.now ++ printed k s (lines (drop at text)) ≡ losses text

pub going_none : (before : Printed) (text : List ℕ) (s : State) → before.end ≡ 0 → length before.out.now ≡ 200064 → s ≡ begin →
    Going before text s 0 0 before
going_none before text s z l e =
    subst (λ (t : State). Going before text t 0 0 before) (sym e)
    (record {
      count = lit≤ tt;
      short = omega arith;
      row = zero-le;
      start = z;
      room = l;
      long = refl;
      same = refl;
      live = live_begin;
      whole = ap (λ (n : ℕ). take n before.out.now ++ printed 0 begin (lines text)) z ∙ printed_all text;
    })

module _ (before : Printed) (text : List ℕ) (s : State) (at k : ℕ) (p : Printed) (g : Going before text s at k p) where
  -- all is put: as many bytes as are to be printed
  all_put : (after : Printed) → after.end ≤ length after.out.now → length after.out.now ≡ length before.out.now →
      after.out.ghost_name ≡ before.out.ghost_name → take after.end after.out.now ≡ losses text → Puts before (losses text) after
  all_put after h l n e = record {
    put = (
      omega (arith, g.start, length-take-le after.end after.out.now h, ap length e),
      e ∙ ap (λ (m : ℕ). take m before.out.now ++ losses text) (sym g.start),
    );
    long = l;
    same = n;
  }

  -- no line is left
  pub gone_all : length text ≤ at → Puts before (losses text) p
  unfolding lines printed
  gone_all h =
      let e : drop at text ≡ [] = drop_of_length-le text h in
      all_put p (omega (arith, g.short, g.count, g.room, g.long)) g.long g.same
      (sym (append-nil (take p.end p.out.now))
      ∙ ap (λ (t : List ℕ). take p.end p.out.now ++ printed k s (lines t)) (sym e)
      ∙ g.whole)

  -- a line is refused
  pub room_to_refuse : (number : ℕ) → number ≡ k + 1 → HasRoom p (refusal number)
  room_to_refuse number n =
      omega (arith, g.short, g.count, g.room, g.long, refusal_short number (omega (arith, n, g.count)))

  module _ (h : at < length text) where
    abbrev entry : Entry
    entry = entry_of (line_at text at)

    still : printed k s (lines (drop at text)) ≡ printed k s (line_at text at ∷ lines (drop (next_of text at) text))
    still = ap (printed k s) (cut_at text at h)

    refuses : (ltb k most && entry.right) ≡ false → printed k s (lines (drop at text)) ≡ refusal (k + 1)
    unfolding printed
    refuses e = still ∙ rw e

    gone_refused : (number : ℕ) (after : Printed) → number ≡ k + 1 → (ltb k most && entry.right) ≡ false →
        Puts p (refusal number) after → Puts before (losses text) after
    gone_refused number after n b q =
        all_put after (omega (arith, q.put.0, room_to_refuse number n, q.long)) (q.long ∙ g.long) (q.same ∙ g.same)
        (q.put.1
        ∙ ap (λ (m : ℕ). take p.end p.out.now ++ refusal m) n
        ∙ ap (λ (t : List ℕ). take p.end p.out.now ++ t) (sym (refuses b))
        ∙ g.whole)

    -- as the code finds it: all lines are used up, or this one has another form
    pub gone_full : (after : Printed) → 10000 ≤ k → Puts p (refusal 10001) after → Puts before (losses text) after
    gone_full after n q =
        gone_refused 10001 after (omega (arith, g.count)) (ap (λ (b : Bool). b && entry.right) (le-ltb k most n)) q

    module _ (read : MadeRead) (r : as_read read ≡ read_at text at) where
      is_entry : as_entry read.entry ≡ entry
      unfolding read_at
      is_entry = ap (λ (x : Read). x.entry) r

      is_next : read.next ≡ next_of text at
      unfolding read_at
      is_next = ap (λ (x : Read). x.next) r

      pub gone_other : (after : Printed) → read.entry ≡ None → Puts p (refusal (k + 1)) after → Puts before (losses text) after
      gone_other after n q =
          gone_refused (k + 1) after refl
          (ap (λ (b : Bool). ltb k most && b) (sym (ap (λ (e : Entry). e.right) (rw n at is_entry)))
          ∙ and_false (ltb k most))
          q
        where
          and_false : (b : Bool) → b && false ≡ false
          and_false true = refl
          and_false false = refl

      -- a line is taken
      module _ (e : Made) (m : read.entry ≡ Some e) (next : State) (f : next ≡ follow s (taken e)) where
        is_taken : taken e ≡ entry
        is_taken = rw m at is_entry

        follows : follow s entry ≡ next
        follows = ap (follow s) (sym is_taken) ∙ sym f

        live_next : Live next
        live_next = subst Live follows (live_follow s entry (entry_short (line_at text at)) g.live)

        pub steady_next : Steady next.ends.coder × Steady next.ends.decoder
        steady_next = (steady next.ends.coder live_next.coder, steady next.ends.decoder live_next.decoder)

        row_next : next.arrivals ≤ k + 1
        unfolding follow
        row_next = subst (λ (t : State). t.arrivals ≤ k + 1) follows (either entry.arrives)
          where
            more : (a k : ℕ) → a ≤ k → a + 1 ≤ k + 1
            more a k h = omega arith

            either : (b : Bool) → cond b (s.arrivals + 1) 0 ≤ k + 1
            either true = more s.arrivals k g.row
            either false = zero-le

        module _ (below : k < 10000) (q : ℕ) (d : q ≡ apart64 next.ends) where
          fits : length (reported (k + 1) next.arrivals q) ≤ 20
          fits =
              reported_short (k + 1) next.arrivals q (omega arith) (omega (arith, row_next))
              (lt_of_le_of_lt (le_trans (le_of_eq d) (live_few next live_next)) (lit< tt))

          pub room_to_report : HasRoom p (reported (k + 1) next.arrivals q)
          room_to_report = omega (arith, g.short, g.room, g.long, fits)

          takes : printed k s (lines (drop at text)) ≡ report (k + 1) next ++ printed (k + 1) next (lines (drop read.next text))
          unfolding printed
          takes =
              let right : entry.right ≡ true = sym (ap (λ (x : Entry). x.right) is_taken) in
              let A : List ℕ = report (k + 1) (follow s entry) ++ printed (k + 1) (follow s entry) (lines (drop (next_of text at) text)) in
              still
              ∙ ap (λ (b : Bool). cond (b && entry.right) A (refusal (k + 1))) (lt-ltb k most below)
              ∙ ap (λ (b : Bool). cond b A (refusal (k + 1))) right
              ∙ ap (λ (t : State). report (k + 1) t ++ printed (k + 1) t (lines (drop (next_of text at) text))) follows
              ∙ ap (λ (m : ℕ). report (k + 1) next ++ printed (k + 1) next (lines (drop m text))) (sym is_next)

          pub going_more : (after : Printed) → Puts p (reported (k + 1) next.arrivals q) after →
              Going before text next read.next (k + 1) after
          going_more after w =
              let R = reported (k + 1) next.arrivals q in
              let P = printed (k + 1) next (lines (drop read.next text)) in
              record {
                count = omega arith;
                short = omega (arith, g.short, fits, w.put.0);
                row = row_next;
                start = g.start;
                room = g.room;
                long = w.long ∙ g.long;
                same = w.same ∙ g.same;
                live = live_next;
                whole =
                    ap (λ (t : List ℕ). t ++ P) w.put.1
                    ∙ append_assoc (take p.end p.out.now) R P
                    ∙ ap (λ (x : ℕ). take p.end p.out.now ++ (reported (k + 1) next.arrivals x ++ P)) d
                    ∙ ap (λ (t : List ℕ). take p.end p.out.now ++ t) (sym takes)
                    ∙ g.whole;
              }
