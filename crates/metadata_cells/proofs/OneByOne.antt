-- Reading the records of a cell, one after the other.
use Rattle.std.proofs.Common.{◌≡◌, ℕ, zero, suc, ◌+◌, ◌-◌, ◌<◌, ◌≤◌, true, false, nat_eq, List, [], ◌∷◌, ◌++◌, length, take, drop, refl, sym, ap, subst, ◌∙◌, arith, Result, Ok, append_assoc, length-append, length-drop, length-take}
use Rattle.std.proofs.lemmas.Bool.{and_parts, eqb-true}
use Rattle.std.proofs.Math.Seq.{take-add}
use Rattle.std.proofs.lemmas.List.{append-nil, take_at, take_all, take-append-drop}
use Rattle.std.specs.List.{AllByRecursion, list_all}
use Rattle.page_store.specs.domain_base.Page.{zero_bytes}
use Rattle.page_store.specs.domain_base.declared.version.Version.TheVariants.{Four}
use Rattle.cell_records.specs.declared.record.Record.{Record}
use Rattle.cell_records.specs.declared.record.Bad.{Bad}
use Rattle.cell_records.specs.Records.{Allowed, Begins, kind_of, last_kind, spelling}
use Rattle.cell_records.proofs.EachKind.{is_kind}
use Rattle.metadata_cells.specs.declared.head.CellHead.{CellHead}
use Rattle.metadata_cells.specs.Cell.{AreRecords, AreRising, Cell, HasHead, IsCell, place_of, spellings}
use Rattle.metadata_cells.specs.Reading.{ReadsRecords}
use Rattle.metadata_cells.proofs.Spellings.{spellings-push, behind, last_place, last_place-push, rising-push, rising-next, allowed-push}

-- zeros are those that pass the test
pub zeros_are : (bs : List ℕ) → list_all (λ b. nat_eq b 0) bs ≡ true → bs ≡ zero_bytes (length bs)
unfolding zero_bytes
zeros_are [] all = refl
zeros_are (b ∷ bs) all =
    let parts = and_parts (nat_eq b 0) (list_all (λ b. nat_eq b 0) bs) all in
    (λ i. eqb-true b 0 parts.0 i ∷ zeros_are bs parts.1 i)

pub are_zeros : (n : ℕ) → list_all (λ b. nat_eq b 0) (zero_bytes n) ≡ true
unfolding zero_bytes
are_zeros zero = refl
are_zeros (suc n) = are_zeros n

-- what is left of the bytes, as code takes it
pub tail_is : (bytes : List ℕ) (at : ℕ) → take (length bytes - at) (drop at bytes) ≡ drop at bytes
tail_is bytes at = take_all (length bytes - at) (drop at bytes) (omega (arith, length-drop at bytes))

-- what is read is one record
abbrev pair : Record → ℕ → Record × ℕ
pair r n = (r, n)

abbrev read : Record → ℕ → Result (Record × ℕ) Bad
read r n = Ok (pair r n)

pub read_is : (q r : Record) (m n : ℕ) → read q m ≡ read r n → q ≡ r
read_is q r m n same = let both : pair q m ≡ pair r n = cc in ap (λ (p : Record × ℕ). p.0) both

-- each record is one of version 4
pub known : (r : Record) → kind_of r ≤ last_kind Four
known r = let h = is_kind r in let high : kind_of r < 15 = h.1 in omega arith

-- the records that were read so far
pub record ReadSo (bytes : List ℕ) (old new : List Record) (at last : ℕ) : Type 0 where
  pub records : List Record
  pub found : new ≡ old ++ records
  pub inside : at ≤ length bytes
  pub front : take at bytes ≡ spellings records
  pub allowed : AllByRecursion Allowed records
  pub rising : AreRising 0 records
  pub place : last ≡ last_place 0 records

pub read_none : (bytes : List ℕ) (old : List Record) → ReadSo bytes old old 0 0
read_none bytes old = record { records = []; found = sym (append-nil old); inside = omega arith; front = refl; allowed = tt; rising = tt; place = refl }

module _ (bytes : List ℕ) (old new : List Record) (at last : ℕ) (so : ReadSo bytes old new at last) where
  -- the bytes are what was read and a rest
  whole : bytes ≡ spellings so.records ++ drop at bytes
  whole = sym (take-append-drop at bytes) ∙ ap (λ (bs : List ℕ). bs ++ drop at bytes) so.front

  pub read_more : (r : Record) (len : ℕ) → Begins Four (drop at bytes) r → len ≡ length (spelling r) → last < place_of r → ReadSo bytes old (new ++ r ∷ []) (at + len) (place_of r)
  read_more r len begins size above =
      let spelled : take len (drop at bytes) ≡ spelling r = ap (take len) begins.parts ∙ take_at (spelling r) begins.rest len (sym size) in
      let room : len + at ≤ length bytes = omega (arith, length-drop at bytes, ap length begins.parts, length-append (spelling r) begins.rest, size, so.inside) in
      record {
        records = so.records ++ r ∷ [];
        found = ap (λ (rs : List Record). rs ++ r ∷ []) so.found ∙ append_assoc old so.records (r ∷ []);
        inside = omega (arith, room);
        front = take-add at len bytes ∙ (λ i. so.front i ++ spelled i) ∙ sym (spellings-push so.records r);
        allowed = allowed-push so.records r so.allowed begins.allowed;
        rising = rising-push 0 so.records r so.rising (omega (arith, above, so.place));
        place = sym (last_place-push 0 so.records r);
      }

  pub read_all : length bytes ≤ at → ReadsRecords bytes old new true
  read_all past = (so.records, so.found, sym (take_all at bytes past) ∙ so.front, record { allowed = so.allowed; rising = so.rising })

  -- records that a cell may have and that the bytes are go on with one that the rest begins with
  next_record : at < length bytes → (rs : List Record) → AreRecords rs → bytes ≡ spellings rs → (r : Record) × Begins Four (drop at bytes) r × (last < place_of r)
  next_record more rs good same =
      let b = behind so.records rs (drop at bytes) so.allowed good.allowed (sym same ∙ whole) in
      next b.others b.all b.spelled b.allowed
    where
      next : (others : List Record) → rs ≡ so.records ++ others → drop at bytes ≡ spellings others → AllByRecursion Allowed others → (r : Record) × Begins Four (drop at bytes) r × (last < place_of r)
      next [] all spelled allowed = absurd (omega (arith, more, length-drop at bytes, ap length spelled))
      next (r ∷ others) all spelled allowed = (
        r,
        record { allowed = allowed.0; known = known r; rest = spellings others; parts = spelled },
        omega (arith, so.place, rising-next 0 so.records r others (subst (AreRising 0) all good.rising)),
      )

  pub not_read : at < length bytes → ((r : Record) → ¬ Begins Four (drop at bytes) r) → ReadsRecords bytes old new false
  not_read more none rs good same = let next = next_record more rs good same in none next.0 next.1

  pub not_above : at < length bytes → (r : Record) → ((q : Record) → Begins Four (drop at bytes) q → q ≡ r) → place_of r ≤ last → ReadsRecords bytes old new false
  not_above more r only low rs good same =
      let next = next_record more rs good same in
      omega (arith, next.2, ap place_of (only next.0 next.1), low)

-- ---- a whole cell

module _ (cell : List ℕ) (head : CellHead) (size : ℕ) (is_head : HasHead cell head size) where
  as_long : (content : Cell) → IsCell cell content → length (spellings content.records) ≡ size
  as_long content is = sym is.head.size ∙ is_head.size

  pub zeros_behind : (content : Cell) → IsCell cell content → list_all (λ b. nat_eq b 0) (drop (20 + size) cell) ≡ true
  zeros_behind content is =
      ap (list_all (λ b. nat_eq b 0)) (ap (λ n. drop (20 + n) cell) (sym (as_long content is)) ∙ is.others) ∙ are_zeros (272 - length (spellings content.records))

  pub records_there : (content : Cell) → IsCell cell content → take size (drop 20 cell) ≡ spellings content.records
  records_there content is = ap (λ n. take n (drop 20 cell)) (sym (as_long content is)) ∙ is.records

  pub cell_is : (rs : List Record) → length cell ≡ 292 → take size (drop 20 cell) ≡ spellings rs → AreRecords rs → list_all (λ b. nat_eq b 0) (drop (20 + size) cell) ≡ true
      → IsCell cell (record { head = head; records = rs })
  cell_is rs len spelled good zeros =
      let long : size ≡ length (spellings rs) = omega (arith, ap length spelled, length-take size (drop 20 cell), length-drop 20 cell, len, is_head.fits) in
      let rest : length (drop (20 + size) cell) ≡ 272 - size = omega (arith, length-drop (20 + size) cell, len) in
      record {
        head = subst (HasHead cell head) long is_head;
        records = ap (λ n. take n (drop 20 cell)) (sym long) ∙ spelled;
        others = ap (λ n. drop (20 + n) cell) (sym long) ∙ zeros_are (drop (20 + size) cell) zeros ∙ ap zero_bytes (rest ∙ ap (λ n. 272 - n) long);
        well_formed = good;
      }
