-- What a scan of fields says of the bytes.
use Rattle.std.proofs.Common.{◌≡◌, ℕ, zero, suc, ◌+◌, ◌-◌, ◌^◌, ◌<◌, ◌≤◌, Bool, true, false, cond, ltb, leb, eqb, ◌&&◌, List, [], ◌∷◌, ◌++◌, length, get_or, take, drop, sum, Result, Ok, Err, refl, sym, ap, ◌∙◌, ◌⊎◌, inl, inr, append_assoc, arith, length-append, length-drop, drop-cons}
use Rattle.std.proofs.Math.Seq.{take-add}
use Rattle.std.proofs.lemmas.Bool.{cases_Bool, cases_lt, ltb-true, lt-ltb, le-ltb, leb-true, le-leb, eqb-true, eq-eqb, and_parts, and_from, or_cases}
use Rattle.std.proofs.lemmas.List.{take_at, drop_at, take_all, drop_all, drop-drop}
use Rattle.byteorder.specs.Endian.{little_number, little_bytes}
use Rattle.byteorder.specs.Numbers.{length-bytes_low_first, little_number-reads_back}
use Rattle.cell_records.specs.declared.rule.Rule.{Rule}
use Rattle.cell_records.specs.declared.rule.Rule.TheVariants.{Any, Range, Volume, IfUsed, Page, Count}
use Rattle.cell_records.specs.declared.rule.Seen.{Seen}
use Rattle.cell_records.specs.Records.{spelled}
use Rattle.cell_records.specs.Rules.{allows, after, scan}
use Rattle.cell_records.specs.Fields.{number_at}
use Rattle.cell_records.proofs.Bytes.{IsBytes, IsBytes-drop, little_bytes-little_number, little_number-lt, little_number-take}
use Rattle.cell_records.proofs.Spelling.{sum-cons}

-- numbers that may stand in fields of these widths and rules
abbrev pub Passes : List ℕ → List Rule → Seen → List ℕ → Type 0
Passes [] rs seen [] = Unit {0}
Passes [] rs seen (n ∷ ns) = ⊥
Passes (w ∷ ws) [] seen ns = ⊥
Passes (w ∷ ws) (r ∷ rs) seen [] = ⊥
Passes (w ∷ ws) (r ∷ rs) seen (n ∷ ns) = (n < 256 ^ w) × (allows r seen n ≡ true) × Passes ws rs (after r seen n) ns

-- the numbers in fields of these widths from a place on
abbrev pub decoded : List ℕ → ℕ → List ℕ → List ℕ
decoded [] at bytes = []
decoded (w ∷ ws) at bytes = number_at w at bytes ∷ decoded ws (at + w) bytes

pub Passes-length : (ws : List ℕ) (rs : List Rule) (seen : Seen) (ns : List ℕ) → Passes ws rs seen ns → length ns ≡ length ws
Passes-length [] rs seen [] pass = refl
Passes-length [] rs seen (n ∷ ns) pass = absurd pass
Passes-length (w ∷ ws) [] seen ns pass = absurd pass
Passes-length (w ∷ ws) (r ∷ rs) seen [] pass = absurd pass
Passes-length (w ∷ ws) (r ∷ rs) seen (n ∷ ns) pass = ap suc (Passes-length ws rs (after r seen n) ns pass.2)

-- ---- one field

pub scan-short : (w : ℕ) (ws : List ℕ) (r : Rule) (rs : List Rule) (seen : Seen) (bytes : List ℕ) (at : ℕ) → length bytes < w → scan (w ∷ ws) (r ∷ rs) seen bytes at ≡ Err at
unfolding scan
scan-short w ws r rs seen bytes at short = rw (lt-ltb (length bytes) w short) refl

pub scan-refused : (w : ℕ) (ws : List ℕ) (r : Rule) (rs : List Rule) (seen : Seen) (bytes : List ℕ) (at : ℕ) → w ≤ length bytes → allows r seen (little_number w bytes) ≡ false → scan (w ∷ ws) (r ∷ rs) seen bytes at ≡ Err at
unfolding scan
scan-refused w ws r rs seen bytes at long fails = rw (le-ltb (length bytes) w long, fails) refl

pub scan-on : (w : ℕ) (ws : List ℕ) (r : Rule) (rs : List Rule) (seen : Seen) (bytes : List ℕ) (at : ℕ) → w ≤ length bytes → allows r seen (little_number w bytes) ≡ true
    → scan (w ∷ ws) (r ∷ rs) seen bytes at ≡ scan ws rs (after r seen (little_number w bytes)) (drop w bytes) (at + w)
unfolding scan
scan-on w ws r rs seen bytes at long holds = rw (le-ltb (length bytes) w long, holds) refl

pub scan-none : (rs : List Rule) (seen : Seen) (bytes : List ℕ) (at : ℕ) → scan [] rs seen bytes at ≡ Ok at
unfolding scan
scan-none rs seen bytes at = refl

pub scan-unruled : (w : ℕ) (ws : List ℕ) (seen : Seen) (bytes : List ℕ) (at : ℕ) → scan (w ∷ ws) [] seen bytes at ≡ Err at
unfolding scan
scan-unruled w ws seen bytes at = refl

-- a field is short of bytes, refuses its number or goes on
pub data FieldCase (w : ℕ) (r : Rule) (seen : Seen) (bytes : List ℕ) : Type 0 where
  short : length bytes < w → FieldCase w r seen bytes
  refused : w ≤ length bytes → allows r seen (little_number w bytes) ≡ false → FieldCase w r seen bytes
  goes_on : w ≤ length bytes → allows r seen (little_number w bytes) ≡ true → FieldCase w r seen bytes

pub field_case : (w : ℕ) (r : Rule) (seen : Seen) (bytes : List ℕ) → FieldCase w r seen bytes
field_case w r seen bytes =
    elim (cases_lt (length bytes) w) [
      | inl lt ↦ short lt
      | inr le ↦ elim (cases_Bool (allows r seen (little_number w bytes))) [ inl holds ↦ goes_on le holds | inr fails ↦ refused le fails ]
    ]

abbrev pub nil : List ℕ
nil = []

abbrev pub done : ℕ → Result ℕ ℕ
done x = Ok x

abbrev pub stopped : ℕ → Result ℕ ℕ
stopped x = Err x

pub ok_is : (x y : ℕ) → done x ≡ done y → x ≡ y
ok_is x y e = cc

pub err_is : (x y : ℕ) → stopped x ≡ stopped y → x ≡ y
err_is x y e = cc

pub err_is_not_ok : (x y : ℕ) → stopped x ≡ done y → ⊥
err_is_not_ok x y e = cc

-- ---- what a scan that ends has read

pub record Read (ws : List ℕ) (rs : List Rule) (seen : Seen) (bytes : List ℕ) (at end : ℕ) : Type 0 where
  pub stops : end ≡ at + sum ws
  pub inside : end ≤ length bytes
  pub passes : Passes ws rs seen (decoded ws at bytes)
  pub text : spelled ws (decoded ws at bytes) ≡ take (sum ws) (drop at bytes)

pub scan_ok : (ws : List ℕ) (rs : List Rule) (seen : Seen) (bytes : List ℕ) (at end : ℕ) → IsBytes bytes → at ≤ length bytes → scan ws rs seen (drop at bytes) at ≡ Ok end → Read ws rs seen bytes at end
unfolding number_at spelled
scan_ok [] rs seen bytes at end fits le e =
    let is : at ≡ end = ok_is at end (sym (scan-none rs seen (drop at bytes) at) ∙ e) in
    record { stops = omega (arith, is); inside = omega (arith, is); passes = tt; text = refl }
scan_ok (w ∷ ws) [] seen bytes at end fits le e = absurd (err_is_not_ok at end (sym (scan-unruled w ws seen (drop at bytes) at) ∙ e))
scan_ok (w ∷ ws) (r ∷ rs) seen bytes at end fits le e =
    let rest = drop at bytes in
    elim (field_case w r seen rest) [
      | short lt ↦ absurd (err_is_not_ok at end (sym (scan-short w ws r rs seen rest at lt) ∙ e))
      | refused long fails ↦ absurd (err_is_not_ok at end (sym (scan-refused w ws r rs seen rest at long fails) ∙ e))
      | goes_on long holds ↦
          let n = little_number w rest in
          let below : at + w ≤ length bytes = omega (arith, length-drop at bytes) in
          let step : scan ws rs (after r seen n) (drop (at + w) bytes) (at + w) ≡ Ok end =
          rw (← drop-drop w at bytes) (sym (scan-on w ws r rs seen rest at long holds) ∙ e) in
          let others = scan_ok ws rs (after r seen n) bytes (at + w) end fits below step in
          let front : little_bytes w n ≡ take w rest = little_bytes-little_number w rest (IsBytes-drop at bytes fits) long in
          let tail : spelled ws (decoded ws (at + w) bytes) ≡ take (sum ws) (drop w rest) = others.text ∙ ap (take (sum ws)) (sym (drop-drop w at bytes)) in
          record {
            stops = omega (arith, others.stops, sum-cons w ws);
            inside = others.inside;
            passes = (little_number-lt w rest (IsBytes-drop at bytes fits), holds, others.passes);
            text = rw (front, tail, sum-cons w ws) (sym (take-add w (sum ws) rest));
          }
    ]

-- ---- numbers that pass are read again

pub scan_again : (ws : List ℕ) (rs : List Rule) (seen : Seen) (ns rest : List ℕ) (at : ℕ) → Passes ws rs seen ns → scan ws rs seen (spelled ws ns ++ rest) at ≡ Ok (at + sum ws)
unfolding spelled
scan_again [] rs seen [] rest at pass = let e : at + sum [] ≡ at = omega arith in rw e (scan-none rs seen rest at)
scan_again [] rs seen (n ∷ ns) rest at pass = absurd pass
scan_again (w ∷ ws) [] seen ns rest at pass = absurd pass
scan_again (w ∷ ws) (r ∷ rs) seen [] rest at pass = absurd pass
scan_again (w ∷ ws) (r ∷ rs) seen (n ∷ ns) rest at pass =
    let more = spelled ws ns ++ rest in
    let len = length-bytes_low_first 0 w n in
    let grouped : spelled (w ∷ ws) (n ∷ ns) ++ rest ≡ little_bytes w n ++ more = append_assoc (little_bytes w n) (spelled ws ns) rest in
    let number : little_number w (little_bytes w n ++ more) ≡ n = little_number-reads_back w n more pass.0 in
    let long : w ≤ length (little_bytes w n ++ more) = omega (arith, length-append (little_bytes w n) more) in
    let holds : allows r seen (little_number w (little_bytes w n ++ more)) ≡ true = rw number pass.1 in
    let step = scan-on w ws r rs seen (little_bytes w n ++ more) at long holds in
    let others = scan_again ws rs (after r seen n) ns rest (at + w) pass.2 in
    let total : at + w + sum ws ≡ at + sum (w ∷ ws) = omega (arith, sum-cons w ws) in
    ap (λ (bytes : List ℕ). scan (w ∷ ws) (r ∷ rs) seen bytes at) grouped ∙ step
    ∙ rw (number, drop_at (little_bytes w n) more w len) others ∙ ap (λ (k : ℕ). done k) total

pub decoded_again : (ws : List ℕ) (rs : List Rule) (seen : Seen) (ns front rest : List ℕ) (at : ℕ) → Passes ws rs seen ns → length front ≡ at → decoded ws at (front ++ (spelled ws ns ++ rest)) ≡ ns
unfolding number_at spelled
decoded_again [] rs seen [] front rest at pass len = refl
decoded_again [] rs seen (n ∷ ns) front rest at pass len = absurd pass
decoded_again (w ∷ ws) [] seen ns front rest at pass len = absurd pass
decoded_again (w ∷ ws) (r ∷ rs) seen [] front rest at pass len = absurd pass
decoded_again (w ∷ ws) (r ∷ rs) seen (n ∷ ns) front rest at pass len =
    let more = spelled ws ns ++ rest in
    let grouped : front ++ (spelled (w ∷ ws) (n ∷ ns) ++ rest) ≡ front ++ (little_bytes w n ++ more) = ap (λ (bytes : List ℕ). front ++ bytes) (append_assoc (little_bytes w n) (spelled ws ns) rest) in
    let shifted : front ++ (little_bytes w n ++ more) ≡ (front ++ little_bytes w n) ++ more = sym (append_assoc front (little_bytes w n) more) in
    let first : number_at w at (front ++ (little_bytes w n ++ more)) ≡ n = rw (drop_at front (little_bytes w n ++ more) at len) (little_number-reads_back w n more pass.0) in
    let len' : length (front ++ little_bytes w n) ≡ at + w = omega (arith, length-append front (little_bytes w n), length-bytes_low_first 0 w n) in
    let others : decoded ws (at + w) (front ++ (little_bytes w n ++ more)) ≡ ns = rw shifted (decoded_again ws rs (after r seen n) ns (front ++ little_bytes w n) rest (at + w) pass.2 len') in
    ap (decoded (w ∷ ws) at) grouped ∙ ap (λ (m : ℕ). m ∷ decoded ws (at + w) (front ++ (little_bytes w n ++ more))) first ∙ ap (λ (ms : List ℕ). n ∷ ms) others

-- ---- a scan that stops

-- The bytes up to the end of the field at which the scan stops decide that it stops there.
pub record Stops (ws : List ℕ) (rs : List Rule) (seen : Seen) (bytes : List ℕ) (at end : ℕ) : Type 0 where
  pub field : ℕ
  pub is_field : field < length ws
  pub place : end ≡ at + sum (take field ws)
  pub decided : (other : List ℕ) → sum (take (suc field) ws) ≤ length bytes → sum (take (suc field) ws) ≤ length other
      → take (sum (take (suc field) ws)) other ≡ take (sum (take (suc field) ws)) bytes → scan ws rs seen other at ≡ Err end

take-parts : (m n : ℕ) (xs ys : List ℕ) → m + n ≤ length xs → m + n ≤ length ys → take (m + n) xs ≡ take (m + n) ys → (take m xs ≡ take m ys) × (take n (drop m xs) ≡ take n (drop m ys))
take-parts zero n xs ys lx ly e = let k : 0 + n ≡ n = omega arith in (refl, rw k at e)
take-parts (suc m) n [] ys lx ly e = absurd (omega arith)
take-parts (suc m) n (x ∷ xs) [] lx ly e = absurd (omega arith)
take-parts (suc m) n (x ∷ xs) (y ∷ ys) lx ly e =
    let k : suc m + n ≡ suc (m + n) = omega arith in
    let e' = rw k at e in
    let heads : x ≡ y = cc in
    let tails : take (m + n) xs ≡ take (m + n) ys = cc in
    let rest = take-parts m n xs ys (omega arith) (omega arith) tails in
    (cc, rest.1)

pub scan_err : (ws : List ℕ) (rs : List Rule) (seen : Seen) (bytes : List ℕ) (at end : ℕ) → scan ws rs seen bytes at ≡ Err end → Stops ws rs seen bytes at end
scan_err [] rs seen bytes at end e = absurd (err_is_not_ok end at (sym e ∙ scan-none rs seen bytes at))
scan_err (w ∷ ws) [] seen bytes at end e =
    let is : at ≡ end = err_is at end (sym (scan-unruled w ws seen bytes at) ∙ e) in
    record { field = 0; is_field = omega arith; place = omega (arith, is); decided = λ other lb lo same. scan-unruled w ws seen other at ∙ ap (λ (k : ℕ). stopped k) is }
scan_err (w ∷ ws) (r ∷ rs) seen bytes at end e =
    elim (field_case w r seen bytes) [
      | short lt ↦
          let is : at ≡ end = err_is at end (sym (scan-short w ws r rs seen bytes at lt) ∙ e) in
          record { field = 0; is_field = omega arith; place = omega (arith, is); decided = λ other lb lo same. absurd (omega arith) }
      | refused long fails ↦
          let is : at ≡ end = err_is at end (sym (scan-refused w ws r rs seen bytes at long fails) ∙ e) in
          record {
            field = 0;
            is_field = omega arith;
            place = omega (arith, is);
            decided = λ other lb lo same.
                let one : 0 + w ≡ w = omega arith in
                let number : little_number w other ≡ little_number w bytes = little_number-take w other bytes (rw one at same) in
                scan-refused w ws r rs seen other at (omega (arith, lo)) (rw number fails) ∙ ap (λ (k : ℕ). stopped k) is;
          }
      | goes_on long holds ↦
          let n = little_number w bytes in
          let others = scan_err ws rs (after r seen n) (drop w bytes) (at + w) end (sym (scan-on w ws r rs seen bytes at long holds) ∙ e) in
          let front = sum-cons w (take others.field ws) in
          let whole = sum-cons w (take (suc others.field) ws) in
          record {
            field = suc others.field;
            is_field = omega (arith, others.is_field);
            place = omega (arith, others.place, front);
            decided = λ other lb lo same.
                let m = sum (take (suc others.field) ws) in
                let lb' : w + m ≤ length bytes = omega (arith, whole, lb) in
                let lo' : w + m ≤ length other = omega (arith, whole, lo) in
                let parts = take-parts w m other bytes lo' lb' (rw whole at same) in
                let number : little_number w other ≡ n = little_number-take w other bytes parts.0 in
                let step = scan-on w ws r rs seen other at (omega arith) (rw number holds) in
                step ∙ rw number (others.decided (drop w other) (omega (arith, length-drop w bytes)) (omega (arith, length-drop w other)) parts.1);
          }
    ]

-- ---- fields can always be filled

-- some number can stand in a field of that width and rule, whatever stands in front
abbrev pub is_sane : ℕ → Rule → Bool
is_sane w Any = ltb 0 (256 ^ w)
is_sane w (Range least most) = leb least most && ltb least (256 ^ w)
is_sane w Volume = ltb 0 (256 ^ w)
is_sane w (IfUsed most) = ltb 0 (256 ^ w)
is_sane w Page = ltb 0 (256 ^ w)
is_sane w Count = ltb 1 (256 ^ w)

abbrev pub are_sane : List ℕ → List Rule → Bool
are_sane [] rs = true
are_sane (w ∷ ws) [] = false
are_sane (w ∷ ws) (r ∷ rs) = is_sane w r && are_sane ws rs

-- a page whose count comes next is one that a row may have
abbrev pub Ready : Seen → Type 0
Ready seen = (seen.page ≡ 0) ⊎ ((seen.from ≤ seen.page) × (seen.page < 65536))

pub record Choice (w : ℕ) (r : Rule) (seen : Seen) : Type 0 where
  pub number : ℕ
  pub fits : number < 256 ^ w
  pub allowed : allows r seen number ≡ true

choice : (w : ℕ) (r : Rule) (seen : Seen) → is_sane w r ≡ true → Ready seen → Choice w r seen
choice w Any seen sane ready = record { number = 0; fits = ltb-true 0 (256 ^ w) sane; allowed = refl }
choice w (Range least most) seen sane ready =
    let parts = and_parts (leb least most) (ltb least (256 ^ w)) sane in
    record { number = least; fits = ltb-true least (256 ^ w) parts.1; allowed = and_from (leb least least) (leb least most) (le-leb least least (omega arith)) parts.0 }
choice w Volume seen sane ready = record { number = 0; fits = ltb-true 0 (256 ^ w) sane; allowed = refl }
choice w (IfUsed most) seen sane ready = record { number = 0; fits = ltb-true 0 (256 ^ w) sane; allowed = refl }
choice w Page seen sane ready = record { number = 0; fits = ltb-true 0 (256 ^ w) sane; allowed = refl }
choice w Count seen sane (inl none) = record { number = 0; fits = omega (arith, ltb-true 1 (256 ^ w) sane); allowed = eq-eqb seen.page 0 none }
choice w Count seen sane (inr page) = record { number = 1; fits = ltb-true 1 (256 ^ w) sane; allowed = and_from (leb seen.from seen.page) (leb (seen.page + 1) 65536) (le-leb seen.from seen.page page.0) (le-leb (seen.page + 1) 65536 (omega (arith, page.1))) }

page-cond : (b : Bool) (x y : Seen) → x.page ≡ 0 → y.page ≡ 0 → (cond b x y).page ≡ 0
page-cond true x y ex ey = ex
page-cond false x y ex ey = ey

ready-after : (r : Rule) (seen : Seen) (n : ℕ) → Ready seen → allows r seen n ≡ true → Ready (after r seen n)
ready-after Any seen n ready e = ready
ready-after (Range least most) seen n ready e = ready
ready-after Volume seen n ready e = ready
ready-after (IfUsed most) seen n ready e = ready
ready-after Page seen n ready e =
    elim (or_cases (eqb n 0) (leb seen.from n && ltb n 65536) e) [
      | inl none ↦ inl (eqb-true n 0 none)
      | inr page ↦ let parts = and_parts (leb seen.from n) (ltb n 65536) page in inr (leb-true seen.from n parts.0, ltb-true n 65536 parts.1)
    ]
ready-after Count seen n ready e = inl (page-cond (eqb n 0) (record { from = 65536; page = 0; used = false }) (record { from = seen.page + n; page = 0; used = true }) refl refl)

pub record Filled (ws : List ℕ) (rs : List Rule) (seen : Seen) : Type 0 where
  pub numbers : List ℕ
  pub passes : Passes ws rs seen numbers

pub filled : (ws : List ℕ) (rs : List Rule) (seen : Seen) → are_sane ws rs ≡ true → Ready seen → Filled ws rs seen
filled [] rs seen sane ready = record { numbers = []; passes = tt }
filled (w ∷ ws) [] seen sane ready = absurd cc
filled (w ∷ ws) (r ∷ rs) seen sane ready =
    let parts = and_parts (is_sane w r) (are_sane ws rs) sane in
    let first = choice w r seen parts.0 ready in
    let others = filled ws rs (after r seen first.number) parts.1 (ready-after r seen first.number ready first.allowed) in
    record { numbers = first.number ∷ others.numbers; passes = (first.fits, first.allowed, others.passes) }

-- Numbers that pass are spelled like the bytes before the field at which a scan stops.
pub record Before (ws : List ℕ) (rs : List Rule) (seen : Seen) (bytes : List ℕ) (at end : ℕ) : Type 0 where
  pub numbers : List ℕ
  pub passes : Passes ws rs seen numbers
  pub taken : ℕ
  pub place : end ≡ at + taken
  pub inside : taken ≤ length bytes
  pub same : take taken (spelled ws numbers) ≡ take taken bytes

pub scan_before : (ws : List ℕ) (rs : List Rule) (seen : Seen) (bytes : List ℕ) (at end : ℕ) → IsBytes bytes → are_sane ws rs ≡ true → Ready seen → scan ws rs seen bytes at ≡ Err end → Before ws rs seen bytes at end
unfolding spelled
scan_before [] rs seen bytes at end fits sane ready e = absurd (err_is_not_ok end at (sym e ∙ scan-none rs seen bytes at))
scan_before (w ∷ ws) [] seen bytes at end fits sane ready e = absurd cc
scan_before (w ∷ ws) (r ∷ rs) seen bytes at end fits sane ready e =
    let all = filled (w ∷ ws) (r ∷ rs) seen sane ready in
    let here : at ≡ end → Before (w ∷ ws) (r ∷ rs) seen bytes at end = λ is. record { numbers = all.numbers; passes = all.passes; taken = 0; place = omega arith; inside = omega arith; same = refl } in
    elim (field_case w r seen bytes) [
      | short lt ↦ here (err_is at end (sym (scan-short w ws r rs seen bytes at lt) ∙ e))
      | refused long fails ↦ here (err_is at end (sym (scan-refused w ws r rs seen bytes at long fails) ∙ e))
      | goes_on long holds ↦
          let n = little_number w bytes in
          let parts = and_parts (is_sane w r) (are_sane ws rs) sane in
          let others = scan_before ws rs (after r seen n) (drop w bytes) (at + w) end (IsBytes-drop w bytes fits) parts.1 (ready-after r seen n ready holds) (sym (scan-on w ws r rs seen bytes at long holds) ∙ e) in
          let front : little_bytes w n ≡ take w bytes = little_bytes-little_number w bytes fits long in
          let len = length-bytes_low_first 0 w n in
          let text = spelled ws others.numbers in
          let same : take (w + others.taken) (little_bytes w n ++ text) ≡ take (w + others.taken) bytes =
          take-add w others.taken (little_bytes w n ++ text)
          ∙ rw (take_at (little_bytes w n) text w len, drop_at (little_bytes w n) text w len, others.same, front) (sym (take-add w others.taken bytes)) in
          record {
            numbers = n ∷ others.numbers;
            passes = (little_number-lt w bytes fits, holds, others.passes);
            taken = w + others.taken;
            place = omega (arith, others.place);
            inside = omega (arith, others.inside, length-drop w bytes);
            same = same;
          }
    ]

-- ---- a loop over the fields

pub rest_is : (at : ℕ) (bytes : List ℕ) → take (length bytes - at) (drop at bytes) ≡ drop at bytes
rest_is at bytes = take_all (length bytes - at) (drop at bytes) (omega (arith, length-drop at bytes))

scan-at : (ws : List ℕ) (rs : List Rule) (i : ℕ) (seen : Seen) (bytes : List ℕ) (at : ℕ) → i < length ws → length rs ≡ length ws
    → scan (drop i ws) (drop i rs) seen bytes at ≡ scan (get_or ws i 0 ∷ drop (i + 1) ws) (get_or rs i Any ∷ drop (i + 1) rs) seen bytes at
scan-at ws rs i seen bytes at lt same =
    let k : i + 1 ≡ suc i = omega arith in
    let one : drop i ws ≡ get_or ws i 0 ∷ drop (suc i) ws = drop-cons ws i 0 lt in
    let two : drop i rs ≡ get_or rs i Any ∷ drop (suc i) rs = drop-cons rs i Any (omega arith) in
    rw (k, one, two) refl

pub loop-short : (ws : List ℕ) (rs : List Rule) (i : ℕ) (seen : Seen) (bytes : List ℕ) (at w : ℕ) (total : Result ℕ ℕ) → i < length ws → length rs ≡ length ws → w ≡ get_or ws i 0 → length (take (length bytes - at) (drop at bytes)) < w
    → scan (drop i ws) (drop i rs) seen (drop at bytes) at ≡ total → stopped at ≡ total
loop-short ws rs i seen bytes at w total lt same is_w few so_far =
    let few' : length (drop at bytes) < get_or ws i 0 = omega (arith, ap length (rest_is at bytes), few, is_w) in
    sym (scan-at ws rs i seen (drop at bytes) at lt same ∙ scan-short (get_or ws i 0) (drop (i + 1) ws) (get_or rs i Any) (drop (i + 1) rs) seen (drop at bytes) at few') ∙ so_far

pub loop-refused : (ws : List ℕ) (rs : List Rule) (i : ℕ) (seen : Seen) (bytes : List ℕ) (at w n : ℕ) (total : Result ℕ ℕ) → i < length ws → length rs ≡ length ws → w ≡ get_or ws i 0 → w ≤ length (take (length bytes - at) (drop at bytes))
    → n ≡ little_number w (take (length bytes - at) (drop at bytes)) → allows (get_or rs i Any) seen n ≡ false
    → scan (drop i ws) (drop i rs) seen (drop at bytes) at ≡ total → stopped at ≡ total
loop-refused ws rs i seen bytes at w n total lt same is_w long is_n fails so_far =
    let long' : get_or ws i 0 ≤ length (drop at bytes) = omega (arith, ap length (rest_is at bytes), long, is_w) in
    let number : n ≡ little_number (get_or ws i 0) (drop at bytes) = is_n ∙ rw (rest_is at bytes, is_w) refl in
    sym (scan-at ws rs i seen (drop at bytes) at lt same ∙ scan-refused (get_or ws i 0) (drop (i + 1) ws) (get_or rs i Any) (drop (i + 1) rs) seen (drop at bytes) at long' (rw (← number) fails)) ∙ so_far

pub loop-on : (ws : List ℕ) (rs : List Rule) (i : ℕ) (seen : Seen) (bytes : List ℕ) (at w n : ℕ) (total : Result ℕ ℕ) → i < length ws → length rs ≡ length ws → w ≡ get_or ws i 0 → w ≤ length (take (length bytes - at) (drop at bytes))
    → n ≡ little_number w (take (length bytes - at) (drop at bytes)) → allows (get_or rs i Any) seen n ≡ true
    → scan (drop i ws) (drop i rs) seen (drop at bytes) at ≡ total → scan (drop (i + 1) ws) (drop (i + 1) rs) (after (get_or rs i Any) seen n) (drop (at + w) bytes) (at + w) ≡ total
loop-on ws rs i seen bytes at w n total lt same is_w long is_n holds so_far =
    let long' : get_or ws i 0 ≤ length (drop at bytes) = omega (arith, ap length (rest_is at bytes), long, is_w) in
    let number : n ≡ little_number (get_or ws i 0) (drop at bytes) = is_n ∙ rw (rest_is at bytes, is_w) refl in
    let step = scan-at ws rs i seen (drop at bytes) at lt same ∙ scan-on (get_or ws i 0) (drop (i + 1) ws) (get_or rs i Any) (drop (i + 1) rs) seen (drop at bytes) at long' (rw (← number) holds) in
    rw (number, is_w, ← drop-drop (get_or ws i 0) at bytes) (sym step ∙ so_far)

pub loop-done : (ws : List ℕ) (rs : List Rule) (i : ℕ) (seen : Seen) (bytes : List ℕ) (at : ℕ) (total : Result ℕ ℕ) → length ws ≤ i
    → scan (drop i ws) (drop i rs) seen bytes at ≡ total → done at ≡ total
loop-done ws rs i seen bytes at total le so_far =
    let none : drop i ws ≡ [] = drop_all i ws le in
    sym (ap (λ (vs : List ℕ). scan vs (drop i rs) seen bytes at) none ∙ scan-none (drop i rs) seen bytes at) ∙ so_far
