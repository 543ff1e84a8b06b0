-- The spelling of a whole record, read and refused.
use Rattle.std.proofs.Common.{◌≡◌, ℕ, zero, suc, ◌+◌, ◌<◌, ◌≤◌, leb, eqb, List, [], ◌∷◌, ◌++◌, length, get_or, slice_index, take, drop, sum, Ok, Err, refl, sym, ap, subst, ◌∙◌, ◌⊎◌, inl, inr, arith, length-take}
use Rattle.std.proofs.lemmas.Bool.{cases_lt, eqb-true, leb-true}
use Rattle.std.proofs.lemmas.List.{append-nil, drop_at, take-append-drop, get_or-take, get_or_past}
use Rattle.cell_records.specs.declared.record.Record.{Record}
use Rattle.cell_records.specs.declared.record.Record.TheVariants.{Pending}
use Rattle.cell_records.specs.declared.record.Leftover.TheVariants.{Trim}
use Rattle.cell_records.specs.declared.record.Bad.{Bad}
use Rattle.domain_base.specs.declared.version.Version.{Version}
use Rattle.domain_base.specs.declared.version.Version.TheVariants.{Three, Four}
use Rattle.cell_records.specs.Layouts.{layouts, widths, size_of, start_of, IsKind}
use Rattle.cell_records.specs.Records.{kind_of, last_kind, fields, numbers, spelled, spelling, Allowed, Begins}
use Rattle.cell_records.specs.Wrong.{GoesOn, IsFirstWrong}
use Rattle.cell_records.specs.Rules.{nothing_seen, rule_lists, rules_of, scan}
use Rattle.cell_records.specs.Fields.{record_at}
use Rattle.cell_records.proofs.Bytes.{IsBytes}
use Rattle.cell_records.proofs.Spelling.{sum-cons, length-spelled}
use Rattle.cell_records.proofs.Scan.{Passes, Passes-length, decoded, done, err_is, err_is_not_ok, scan-unruled, scan_ok, scan_again, decoded_again, scan_err, scan_before}
use Rattle.cell_records.proofs.EachKind.{each_test, kind-sane, is_kind, is_record, passes_allowed, allowed_passes, record_again}

-- ---- numbers that are kinds and others

pub kind_or_not : (k : ℕ) → IsKind k ⊎ (IsKind k → ⊥)
kind_or_not k =
    elim (cases_lt 0 k) [
      | inl some ↦ elim (cases_lt k 15) [ inl low ↦ inl (omega arith, low) | inr high ↦ inr (λ h. omega (arith, h.1, high)) ]
      | inr none ↦ inr (λ h. omega (arith, h.0, none))
    ]

pub record Unknown (k : ℕ) : Type 0 where
  pub widths : widths k ≡ 1 ∷ []
  pub rules : rules_of k ≡ []

pub unknown : (k : ℕ) → (IsKind k → ⊥) → Unknown k
unknown zero not = record { widths = refl; rules = refl }
unknown (suc k) not =
    elim (cases_lt (suc k) 15) [
      | inl low ↦ absurd (not (omega arith, low))
      | inr high ↦ record { widths = get_or_past layouts (suc k) (1 ∷ []) high; rules = get_or_past rule_lists (suc k) [] high }
    ]

-- a number that is no kind stops at its own field
pub scan-unknown : (k : ℕ) (bytes : List ℕ) → (IsKind k → ⊥) → scan (widths k) (rules_of k) nothing_seen bytes 0 ≡ Err 0
scan-unknown k bytes not = let u = unknown k not in rw (u.widths, u.rules) (scan-unruled 1 [] nothing_seen bytes 0)

pub scanned_kind : (k : ℕ) (bytes : List ℕ) (end : ℕ) → scan (widths k) (rules_of k) nothing_seen bytes 0 ≡ Ok end → IsKind k
scanned_kind k bytes end e = elim (kind_or_not k) [ inl h ↦ h | inr not ↦ absurd (err_is_not_ok 0 end (sym (scan-unknown k bytes not) ∙ e)) ]

-- ---- the spelling of an allowed record

pub spelled_is : (r : Record) → spelling r ≡ spelled (widths (kind_of r)) (numbers r)
unfolding spelling
spelled_is r = refl

pub length-spelling : (r : Record) → Allowed r → length (spelling r) ≡ size_of (kind_of r)
length-spelling r allowed =
    let pass = allowed_passes r allowed in
    ap length (spelled_is r) ∙ length-spelled (widths (kind_of r)) (numbers r) (Passes-length (widths (kind_of r)) (rules_of (kind_of r)) nothing_seen (numbers r) pass)

-- the first field of each kind is one byte, the kind
pub kind_width : (k : ℕ) → IsKind k → get_or (widths k) 0 0 ≡ 1
kind_width k h = eqb-true (get_or (widths k) 0 0) 1 (each_test (λ j. eqb (get_or (widths j) 0 0) 1) refl k h)

first_spelled : (ws : List ℕ) (k : ℕ) (ns rest : List ℕ) → get_or ws 0 0 ≡ 1 → k < 256 → slice_index (spelled ws (k ∷ ns) ++ rest) 0 ≡ k
unfolding spelled
first_spelled [] k ns rest one small = absurd (omega (arith, one))
first_spelled (w ∷ ws) k ns rest one small = rw one (omega arith)

pub first_byte : (r : Record) (rest : List ℕ) → slice_index (spelling r ++ rest) 0 ≡ kind_of r
unfolding spelling
first_byte r rest =
    let h = is_kind r in
    let high : kind_of r < 15 = h.1 in
    first_spelled (widths (kind_of r)) (kind_of r) (0 ∷ size_of (kind_of r) ∷ fields r) rest (kind_width (kind_of r) h) (omega arith)

-- ---- what is spelled is read

pub scan-begins : (version : Version) (r : Record) (bytes : List ℕ) → Begins version bytes r → scan (widths (kind_of r)) (rules_of (kind_of r)) nothing_seen bytes 0 ≡ Ok (length (spelling r))
scan-begins version r bytes h =
    let pass = allowed_passes r h.allowed in
    let ws = widths (kind_of r) in
    let text : bytes ≡ spelled ws (numbers r) ++ h.rest = h.parts ∙ ap (λ (t : List ℕ). t ++ h.rest) (spelled_is r) in
    let total : 0 + sum ws ≡ length (spelling r) = omega (arith, length-spelling r h.allowed) in
    ap (λ (bs : List ℕ). scan ws (rules_of (kind_of r)) nothing_seen bs 0) text ∙ scan_again ws (rules_of (kind_of r)) nothing_seen (numbers r) h.rest 0 pass ∙ ap (λ (n : ℕ). done n) total

pub record_at-begins : (version : Version) (r : Record) (bytes : List ℕ) → Begins version bytes r → record_at (kind_of r) bytes ≡ r
record_at-begins version r bytes h =
    let pass = allowed_passes r h.allowed in
    let ws = widths (kind_of r) in
    let text : bytes ≡ spelled ws (numbers r) ++ h.rest = h.parts ∙ ap (λ (t : List ℕ). t ++ h.rest) (spelled_is r) in
    record_again r bytes (ap (decoded ws 0) text ∙ decoded_again ws (rules_of (kind_of r)) nothing_seen (numbers r) [] h.rest 0 pass refl)

pub kind-begins : (version : Version) (r : Record) (bytes : List ℕ) → Begins version bytes r → slice_index bytes 0 ≡ kind_of r
kind-begins version r bytes h = ap (λ (bs : List ℕ). slice_index bs 0) h.parts ∙ first_byte r h.rest

-- each record is one of version 4
below_last : (r : Record) → kind_of r ≤ last_kind Four
below_last r = let h = is_kind r in let high : kind_of r < 15 = h.1 in omega arith

-- no spelling begins another
pub one_spelling : (a b : Record) (x y : List ℕ) → Allowed a → Allowed b → spelling a ++ x ≡ spelling b ++ y → (a ≡ b) × (x ≡ y)
one_spelling a b x y allowed_a allowed_b same =
    let bytes = spelling a ++ x in
    let begins_a : Begins Four bytes a = record { allowed = allowed_a; known = below_last a; rest = x; parts = refl } in
    let begins_b : Begins Four bytes b = record { allowed = allowed_b; known = below_last b; rest = y; parts = same } in
    let kinds : kind_of a ≡ kind_of b = sym (kind-begins Four a bytes begins_a) ∙ kind-begins Four b bytes begins_b in
    let records : a ≡ b = sym (record_at-begins Four a bytes begins_a) ∙ ap (λ (k : ℕ). record_at k bytes) kinds ∙ record_at-begins Four b bytes begins_b in
    let len : length (spelling b) ≡ length (spelling a) = ap (λ (r : Record). length (spelling r)) (sym records) in
    (records, sym (drop_at (spelling a) x (length (spelling a)) refl) ∙ ap (drop (length (spelling a))) same ∙ drop_at (spelling b) y (length (spelling a)) len)

-- ---- what is read is spelled

-- an allowed record with the numbers that pass
pub record Made (k : ℕ) (ns : List ℕ) : Type 0 where
  pub value : Record
  pub allowed : Allowed value
  pub kind : kind_of value ≡ k
  pub text : spelling value ≡ spelled (widths k) ns

is_allowed : (k : ℕ) (ns : List ℕ) (r : Record) → kind_of r ≡ k → numbers r ≡ ns → Passes (widths k) (rules_of k) nothing_seen ns → Allowed r
is_allowed k ns r kind same pass =
    let own : Passes (widths (kind_of r)) (rules_of (kind_of r)) nothing_seen (numbers r) = rw (same, kind) pass in
    passes_allowed r own

pub made : (k : ℕ) (ns : List ℕ) → IsKind k → Passes (widths k) (rules_of k) nothing_seen ns → Made k ns
made k ns h pass =
    let bytes = spelled (widths k) ns ++ [] in
    let again : decoded (widths k) 0 bytes ≡ ns = decoded_again (widths k) (rules_of k) nothing_seen ns [] [] 0 pass refl in
    let is = is_record k h bytes (rw again pass) in
    let r = record_at k bytes in
    let same = is.numbers ∙ again in
    record { value = r; allowed = is_allowed k ns r is.kind same pass; kind = is.kind; text = spelled_is r ∙ rw (same, is.kind) refl }

pub record Found (version : Version) (k : ℕ) (bytes : List ℕ) (end : ℕ) : Type 0 where
  pub ends : end ≡ length (spelling (record_at k bytes))
  pub size : end ≡ size_of k
  pub room : size_of k ≤ length bytes
  pub begins : Begins version bytes (record_at k bytes)

pub scan-found : (version : Version) (k : ℕ) (bytes : List ℕ) (end : ℕ) → k ≤ last_kind version → IsBytes bytes → scan (widths k) (rules_of k) nothing_seen bytes 0 ≡ Ok end → Found version k bytes end
scan-found version k bytes end known fits e =
    let read = scan_ok (widths k) (rules_of k) nothing_seen bytes 0 end fits (omega arith) e in
    let is = is_record k (scanned_kind k bytes end e) bytes read.passes in
    let allowed = is_allowed k (decoded (widths k) 0 bytes) (record_at k bytes) is.kind is.numbers read.passes in
    let text : spelling (record_at k bytes) ≡ take (size_of k) bytes = spelled_is (record_at k bytes) ∙ rw (is.numbers, is.kind) read.text in
    let whole : bytes ≡ spelling (record_at k bytes) ++ drop (size_of k) bytes = rw text (sym (take-append-drop (size_of k) bytes)) in
    record {
      ends = omega (arith, read.stops, read.inside, ap length text, length-take (size_of k) bytes);
      size = omega (arith, read.stops);
      room = omega (arith, read.stops, read.inside);
      begins = record { allowed = allowed; known = rw is.kind known; rest = drop (size_of k) bytes; parts = whole };
    }

pub kind-size : (k : ℕ) → IsKind k → 12 ≤ size_of k
kind-size k h = leb-true 12 (size_of k) (each_test (λ j. leb 12 (size_of j)) refl k h)

-- ---- the first wrong field

a_record : Allowed (Pending Trim)
unfolding Allowed
a_record = tt

is_in_both : (version : Version) → 6 ≤ last_kind version
is_in_both Three = omega arith
is_in_both Four = omega arith

-- a record that agrees with the first byte and more has the kind that the byte names
goes_on_kind : (version : Version) (bytes : List ℕ) (n : ℕ) (g : GoesOn version bytes n) → 1 ≤ n → slice_index bytes 0 ≡ kind_of g.value
goes_on_kind version bytes n g some =
    let first = get_or-take n bytes 0 0 some in
    let first' = get_or-take n (spelling g.value) 0 0 some in
    sym first ∙ ap (λ (bs : List ℕ). get_or bs 0 0) (sym g.same) ∙ first' ∙ ap (λ (bs : List ℕ). get_or bs 0 0) (sym (append-nil (spelling g.value))) ∙ first_byte g.value []

first_start : (ws : List ℕ) → get_or ws 0 0 ≡ 1 → sum (take 1 ws) ≡ 1
first_start [] one = absurd (omega (arith, one))
first_start (w ∷ ws) one = omega (arith, sum-cons w (take 0 ws), one)

some_width : (ws : List ℕ) → get_or ws 0 0 ≡ 1 → 0 < length ws
some_width [] one = absurd (omega (arith, one))
some_width (w ∷ ws) one = omega arith

-- nothing is spelled so far that the bytes' first byte is no kind of the version
pub wrong_kind : (version : Version) (bytes : List ℕ) (bad : Bad) → bad.kind ≡ slice_index bytes 0 → bad.at ≡ 0 → (IsKind bad.kind → last_kind version < bad.kind) → IsFirstWrong version bytes bad
wrong_kind version bytes bad kind at not =
    let one : start_of bad.kind 1 ≡ 1 = one_wide bad.kind in
    let zero_bytes : GoesOn version bytes 0 = record { there = omega arith; value = Pending Trim; allowed = a_record; known = is_in_both version; same = refl } in
    record {
      kind = kind;
      field = 0;
      is_field = some_field bad.kind;
      at = at;
      before = rw at zero_bytes;
      wrong = λ g.
          let same : kind_of g.value ≡ bad.kind = sym (kind ∙ goes_on_kind version bytes (start_of bad.kind 1) g (omega (arith, one))) in
          let past = not (subst IsKind same (is_kind g.value)) in
          omega (arith, past, same, g.known);
    }
  where
    one_wide : (k : ℕ) → start_of k 1 ≡ 1
    one_wide k = elim (kind_or_not k) [
      | inl is ↦ first_start (widths k) (kind_width k is)
      | inr not ↦ ap (λ (ws : List ℕ). sum (take 1 ws)) (unknown k not).widths
    ]

    some_field : (k : ℕ) → 0 < length (widths k)
    some_field k = elim (kind_or_not k) [
      | inl is ↦ some_width (widths k) (kind_width k is)
      | inr not ↦ rw (unknown k not).widths (omega arith)
    ]

first_in_sum : (ws : List ℕ) (field : ℕ) → get_or ws 0 0 ≤ sum (take (suc field) ws)
first_in_sum [] field = omega arith
first_in_sum (w ∷ ws) field = omega (arith, sum-cons w (take field ws))

pub wrong_field : (version : Version) (bytes : List ℕ) (bad : Bad) → IsBytes bytes → bad.kind ≡ slice_index bytes 0 → IsKind bad.kind → bad.kind ≤ last_kind version → scan (widths bad.kind) (rules_of bad.kind) nothing_seen bytes 0 ≡ Err bad.at → IsFirstWrong version bytes bad
wrong_field version bytes bad fits kind is known e =
    let k = bad.kind in
    let stops = scan_err (widths k) (rules_of k) nothing_seen bytes 0 bad.at e in
    let front = scan_before (widths k) (rules_of k) nothing_seen bytes 0 bad.at fits (kind-sane k is) (inl refl) e in
    let m = made k front.numbers is front.passes in
    let taken : front.taken ≡ bad.at = omega (arith, front.place) in
    let before : GoesOn version bytes front.taken = record { there = front.inside; value = m.value; allowed = m.allowed; known = rw m.kind known; same = rw m.text front.same } in
    let next : stops.field + 1 ≡ suc stops.field = omega arith in
    record {
      kind = kind;
      field = stops.field;
      is_field = stops.is_field;
      at = omega (arith, stops.place);
      before = subst (GoesOn version bytes) taken before;
      wrong = λ g.
          let far = sum (take (suc stops.field) (widths k)) in
          let g' : GoesOn version bytes far = rw next at g in
          let some : 1 ≤ far = omega (arith, first_in_sum (widths k) stops.field, kind_width k is) in
          let same_kind : k ≡ kind_of g'.value = kind ∙ goes_on_kind version bytes far g' some in
          let long : far ≤ length (spelling g'.value) = omega (arith, ap length g'.same, length-take far (spelling g'.value), length-take far bytes, g'.there) in
          let stopped_at = stops.decided (spelling g'.value) g'.there long g'.same in
          let whole : Begins version (spelling g'.value) g'.value = record { allowed = g'.allowed; known = g'.known; rest = []; parts = sym (append-nil (spelling g'.value)) } in
          let read = scan-begins version g'.value (spelling g'.value) whole in
          err_is_not_ok bad.at (length (spelling g'.value)) (sym stopped_at ∙ ap (λ (j : ℕ). scan (widths j) (rules_of j) nothing_seen (spelling g'.value) 0) same_kind ∙ read);
    }

pub scan-wrong : (version : Version) (bytes : List ℕ) (bad : Bad) → IsBytes bytes → bad.kind ≡ slice_index bytes 0 → bad.kind ≤ last_kind version → scan (widths bad.kind) (rules_of bad.kind) nothing_seen bytes 0 ≡ Err bad.at → IsFirstWrong version bytes bad
scan-wrong version bytes bad fits kind known e =
    elim (kind_or_not bad.kind) [
      | inl is ↦ wrong_field version bytes bad fits kind is known e
      | inr not ↦ wrong_kind version bytes bad kind (err_is bad.at 0 (sym e ∙ scan-unknown bad.kind bytes not)) (λ is. absurd (not is))
    ]

-- ---- both answers for bytes that begin with a record

pub record Reads (k : ℕ) (bytes : List ℕ) (r : Record) : Type 0 where
  pub scan : scan (widths k) (rules_of k) nothing_seen bytes 0 ≡ Ok (length (spelling r))
  pub value : record_at k bytes ≡ r

pub reads-begins : (version : Version) (k : ℕ) (bytes : List ℕ) (r : Record) → k ≡ slice_index bytes 0 → Begins version bytes r → Reads k bytes r
reads-begins version k bytes r is h =
    let kind : kind_of r ≡ k = sym (is ∙ kind-begins version r bytes h) in
    record {
      scan = subst (λ (j : ℕ). scan (widths j) (rules_of j) nothing_seen bytes 0 ≡ done (length (spelling r))) kind (scan-begins version r bytes h);
      value = subst (λ (j : ℕ). record_at j bytes ≡ r) kind (record_at-begins version r bytes h);
    }
