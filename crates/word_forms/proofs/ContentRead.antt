-- Bytes in runs are read back.
use Rattle.std.proofs.Common.{◌≡◌, ℕ, suc, ◌+◌, ◌<◌, ◌≤◌, ◌^◌, ◌/◌, ◌%◌, Bool, true, false, ◌&&◌, not, eqb, leb, ltb, Some, List, [], ◌∷◌, ◌++◌, length, map, get_or, refl, sym, ap, ◌∙◌, arith}
use Rattle.std.specs.List.{list_all, flat_map, slice_split}
use Rattle.std.specs.Fmt.{digit_glyph}
use Rattle.std.proofs.lemmas.Bool.Decides.{nat_tests}
use Rattle.std.proofs.lemmas.List.Folds.{list_all-append}
use Rattle.word_forms.specs.Forms.{bytes_of, each, has_length, run_of, runs_of_word}
use Rattle.word_forms.specs.Runs.{Run, bytes_of_run, bytes_text, hexadecimal, runs_of, run_text, with_byte}
use Rattle.word_forms.proofs.Joined.{flat_map-map}
use Rattle.word_forms.proofs.RunLemmas.{bytes_text-runs, dotted, runs_of_is_form}
use Rattle.word_forms.specs.WellFormed.{IsContent}
use Rattle.word_forms.proofs.HexadecimalRead.{byte_read, digit_range, high_small, low_small}
use Rattle.word_forms.proofs.Cuts.{both, lacks, weaker, cut_parts}
use Rattle.word_forms.proofs.NumbersRead.{large_read, number_lacks}

-- a run of a byte, no longer than this
abbrev bounded : ℕ → Run → Bool
bounded n run = ltb run.byte 256 && leb 1 run.count && leb run.count n

bounded_more : (n : ℕ) (run : Run) → bounded n run ≡ true → bounded (suc n) run ≡ true
bounded_more n run e = grind (arith, nat_tests)

with_bounded : (b n : ℕ) (runs : List Run) → ltb b 256 ≡ true → list_all (bounded n) runs ≡ true → list_all (bounded (suc n)) (with_byte b runs) ≡ true
with_bounded b n [] e es = rw e (let h : leb 1 (suc n) ≡ true = grind (arith, nat_tests) in rw h refl)
with_bounded b n (run ∷ runs) e es = at (eqb b run.byte) refl
  where
    h : (bounded n run ≡ true) × (list_all (bounded n) runs ≡ true)
    h = both (bounded n run) (list_all (bounded n) runs) es

    one : leb 1 (suc n) ≡ true
    one = grind (arith, nat_tests)

    longer : bounded (suc n) (record { byte = run.byte; count = run.count + 1 }) ≡ true
    longer = grind (arith, nat_tests, h.0)

    more : list_all (bounded (suc n)) runs ≡ true
    more = weaker (bounded n) (bounded (suc n)) (bounded_more n) runs h.1

    at : (same : Bool) → eqb b run.byte ≡ same → list_all (bounded (suc n)) (with_byte b (run ∷ runs)) ≡ true
    at true is = rw (is, longer, more) refl
    at false is = rw (is, e, one, bounded_more n run h.0, more) refl

runs_bounded : (bytes : List ℕ) → list_all (λ b. ltb b 256) bytes ≡ true → list_all (bounded (length bytes)) (runs_of bytes) ≡ true
runs_bounded [] e = refl
runs_bounded (b ∷ bytes) e =
    let h = both (ltb b 256) (list_all (λ b. ltb b 256) bytes) e in
    with_bounded b (length bytes) (runs_of bytes) h.0 (runs_bounded bytes h.1)

-- a run that can be written and read
abbrev fits : Run → Bool
fits run = bounded 8_192 run

byte_small : (run : Run) → fits run ≡ true → run.byte < 256
byte_small run e = grind (arith, nat_tests)

some : (run : Run) → fits run ≡ true → 1 ≤ run.count
some run e = grind (arith, nat_tests)

count_small : (run : Run) → fits run ≡ true → run.count < 2 ^ 64
count_small run e = let h : run.count ≤ 8_192 = grind (arith, nat_tests) in omega arith

run_read : (run : Run) → fits run ≡ true → run_of (run_text run) ≡ Some run
unfolding run_of run_text hexadecimal
run_read run e = at (ltb 1 run.count) refl
  where
    at : (more : Bool) → ltb 1 run.count ≡ more → run_of (run_text run) ≡ Some run
    at true is = let h : leb 1 run.count ≡ true = grind (arith, nat_tests) in rw (is, byte_read run.byte (byte_small run e), large_read run.count (count_small run e), h) refl
    at false is = let h : run.count ≡ 1 = grind (arith, nat_tests, some run e) in rw (is, byte_read run.byte (byte_small run e)) (ap (λ n. let r : Run = record { byte = run.byte; count = n } in Some r) (sym h))

digit_lacks : (c d : ℕ) → c < 48 → d < 16 → eqb (digit_glyph false d) c ≡ false
digit_lacks c d small digit = grind (arith, nat_tests, digit_range d digit)

run_lacks : (c : ℕ) (run : Run) → c < 48 → fits run ≡ true → lacks c (run_text run) ≡ true
unfolding run_text hexadecimal
run_lacks c run small e = at (ltb 1 run.count) refl
  where
    h : eqb (digit_glyph false (run.byte / 16)) c ≡ false
    h = digit_lacks c (run.byte / 16) small (high_small run.byte (byte_small run e))

    l : eqb (digit_glyph false (run.byte % 16)) c ≡ false
    l = digit_lacks c (run.byte % 16) small (low_small run.byte)

    x : eqb 120 c ≡ false
    x = grind (arith, nat_tests)

    at : (more : Bool) → ltb 1 run.count ≡ more → lacks c (run_text run) ≡ true
    at true is = rw (is, h, l, x) (number_lacks c run.count (count_small run e) small)
    at false is = rw (is, h, l) refl

runs_read : (runs : List Run) → list_all fits runs ≡ true → each run_of (map run_text runs) ≡ Some runs
runs_read [] e = refl
runs_read (run ∷ runs) e =
    let h = both (fits run) (list_all fits runs) e in
    rw (run_read run h.0, runs_read runs h.1) refl

runs_lack : (c : ℕ) (runs : List Run) → c < 48 → list_all fits runs ≡ true → list_all (lacks c) (map run_text runs) ≡ true
runs_lack c [] small e = refl
runs_lack c (run ∷ runs) small e =
    let h = both (fits run) (list_all fits runs) e in
    rw (run_lacks c run small h.0, runs_lack c runs small h.1) refl

-- the first run and the others, each after a dot, are cut apart again
runs_cut : (run : Run) (runs : List Run) → list_all fits (run ∷ runs) ≡ true → slice_split (λ b. eqb b 46) (run_text run ++ dotted runs) ≡ map run_text (run ∷ runs)
unfolding dotted
runs_cut run runs e =
    let h = both (fits run) (list_all fits runs) e in
    ap (λ bs. slice_split (λ b. eqb b 46) (run_text run ++ bs)) (sym (flat_map-map (λ p. 46 ∷ p) run_text runs))
    ∙ cut_parts 46 (run_text run) (map run_text runs) (run_lacks 46 run (omega arith) h.0) (runs_lack 46 runs (omega arith) h.1)

-- the first byte is no quote
unquoted : (run : Run) (rest : List ℕ) → fits run ≡ true → eqb (get_or (run_text run ++ rest) 0 0) 34 ≡ false
unfolding run_text hexadecimal
unquoted run rest e = digit_lacks 34 (run.byte / 16) (omega arith) (high_small run.byte (byte_small run e))

dots_lack : (runs : List Run) → list_all fits runs ≡ true → lacks 32 (dotted runs) ≡ true
unfolding dotted
dots_lack [] e = refl
dots_lack (run ∷ runs) e =
    let h = both (fits run) (list_all fits runs) e in
    list_all-append (λ b. not (eqb b 32)) (46 ∷ run_text run) (dotted runs)
    ∙ rw (run_lacks 32 run (omega arith) h.0, dots_lack runs h.1) refl

by_runs : (bytes : List ℕ) (run : Run) (runs : List Run) → has_length 1 8_192 bytes ≡ true → runs_of bytes ≡ run ∷ runs → list_all fits (run ∷ runs) ≡ true
    → bytes_of (run_text run ++ dotted runs) ≡ Some bytes
unfolding bytes_of runs_of_word
by_runs bytes run runs size is e =
    let all : flat_map bytes_of_run (run ∷ runs) ≡ bytes = ap (flat_map bytes_of_run) (sym is) ∙ (runs_of_is_form bytes).1 in
    rw (unquoted run (dotted runs) (both (fits run) (list_all fits runs) e).0, runs_cut run runs e, runs_read (run ∷ runs) e, all, size) refl

-- no longer than 8,192
all_fit : (n : ℕ) (runs : List Run) → n ≤ 8_192 → list_all (bounded n) runs ≡ true → list_all fits runs ≡ true
all_fit n runs small e = weaker (bounded n) fits (λ run h. grind (arith, nat_tests)) runs e

size_some : (bytes : List ℕ) → has_length 1 8_192 bytes ≡ true → 0 < length bytes
size_some bytes e = grind (arith, nat_tests)

size_small : (bytes : List ℕ) → has_length 1 8_192 bytes ≡ true → length bytes ≤ 8_192
size_small bytes e = grind (arith, nat_tests)

fitting : (bytes : List ℕ) → IsContent bytes → list_all fits (runs_of bytes) ≡ true
fitting bytes h = all_fit (length bytes) (runs_of bytes) (size_small bytes h.0) (runs_bounded bytes h.1)

pub content_read : (bytes : List ℕ) → IsContent bytes → bytes_of (bytes_text bytes) ≡ Some bytes
content_read bytes h = at (runs_of bytes) refl
  where
    at : (runs : List Run) → runs_of bytes ≡ runs → bytes_of (bytes_text bytes) ≡ Some bytes
    at [] is = absurd (omega (arith, size_some bytes h.0, ap length (sym (runs_of_is_form bytes).1), ap (λ rs. length (flat_map bytes_of_run rs)) is))
    at (run ∷ runs) is =
        ap bytes_of (bytes_text-runs bytes run runs (size_some bytes h.0) is)
        ∙ by_runs bytes run runs h.0 is (ap (list_all fits) (sym is) ∙ fitting bytes h)

pub content_lacks : (bytes : List ℕ) → IsContent bytes → lacks 32 (bytes_text bytes) ≡ true
content_lacks bytes h = at (runs_of bytes) refl
  where
    at : (runs : List Run) → runs_of bytes ≡ runs → lacks 32 (bytes_text bytes) ≡ true
    at [] is = absurd (omega (arith, size_some bytes h.0, ap length (sym (runs_of_is_form bytes).1), ap (λ rs. length (flat_map bytes_of_run rs)) is))
    at (run ∷ runs) is =
        let e : list_all fits (run ∷ runs) ≡ true = ap (list_all fits) (sym is) ∙ fitting bytes h in
        let es = both (fits run) (list_all fits runs) e in
        ap (lacks 32) (bytes_text-runs bytes run runs (size_some bytes h.0) is)
        ∙ list_all-append (λ b. not (eqb b 32)) (run_text run) (dotted runs)
        ∙ rw (run_lacks 32 run (omega arith) es.0, dots_lack runs es.1) refl
