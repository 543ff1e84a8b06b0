-- Records one after the other: what is spelled has one reading.
use Rattle.std.proofs.Common.{◌≡◌, ℕ, ◌<◌, ◌≤◌, List, [], ◌∷◌, ◌++◌, length, refl, sym, ap, ◌∙◌, arith, append_assoc, length-append}
use Rattle.std.proofs.lemmas.List.{append-nil}
use Rattle.std.specs.List.{AllByRecursion}
use Rattle.cell_records.specs.declared.record.Record.{Record}
use Rattle.cell_records.specs.Records.{Allowed, kind_of, spelling}
use Rattle.cell_records.proofs.WholeRecord.{one_spelling, length-spelling, kind-size}
use Rattle.cell_records.proofs.EachKind.{is_kind}
use Rattle.metadata_cells.specs.Cell.{AreRising, place_of, spellings}

-- a record has at least a byte
pub some_bytes : (r : Record) → Allowed r → 1 ≤ length (spelling r)
some_bytes r allowed = omega (arith, length-spelling r allowed, kind-size (kind_of r) (is_kind r))

pub spellings-append : (xs ys : List Record) → spellings (xs ++ ys) ≡ spellings xs ++ spellings ys
spellings-append [] ys = refl
spellings-append (x ∷ xs) ys = ap (λ (bs : List ℕ). spelling x ++ bs) (spellings-append xs ys) ∙ sym (append_assoc (spelling x) (spellings xs) (spellings ys))

pub spellings-push : (xs : List Record) (r : Record) → spellings (xs ++ r ∷ []) ≡ spellings xs ++ spelling r
spellings-push xs r = spellings-append xs (r ∷ []) ∙ ap (λ (bs : List ℕ). spellings xs ++ bs) (append-nil (spelling r))

pub record Behind (xs ys : List Record) (rest : List ℕ) : Type 0 where
  pub others : List Record
  pub all : ys ≡ xs ++ others
  pub spelled : rest ≡ spellings others
  pub allowed : AllByRecursion Allowed others

-- records whose spellings begin with those of others begin with these others
pub behind : (xs ys : List Record) (rest : List ℕ) → AllByRecursion Allowed xs → AllByRecursion Allowed ys → spellings ys ≡ spellings xs ++ rest → Behind xs ys rest
behind [] ys rest good_x good_y same = record { others = ys; all = refl; spelled = sym same; allowed = good_y }
behind (x ∷ xs) [] rest good_x good_y same =
    absurd (omega (arith, some_bytes x good_x.0, ap length same, length-append (spelling x ++ spellings xs) rest, length-append (spelling x) (spellings xs)))
behind (x ∷ xs) (y ∷ ys) rest good_x good_y same =
    let both = one_spelling y x (spellings ys) (spellings xs ++ rest) good_y.0 good_x.0 (same ∙ append_assoc (spelling x) (spellings xs) rest) in
    let more = behind xs ys rest good_x.1 good_y.1 both.1 in
    record {
      others = more.others;
      all = (λ i. both.0 i ∷ more.all i);
      spelled = more.spelled;
      allowed = more.allowed;
    }

-- ---- order

abbrev pub last_place : ℕ → List Record → ℕ
last_place low [] = low
last_place low (r ∷ rs) = last_place (place_of r) rs

pub last_place-push : (low : ℕ) (rs : List Record) (r : Record) → last_place low (rs ++ r ∷ []) ≡ place_of r
last_place-push low [] r = refl
last_place-push low (x ∷ rs) r = last_place-push (place_of x) rs r

pub rising-push : (low : ℕ) (rs : List Record) (r : Record) → AreRising low rs → last_place low rs < place_of r → AreRising low (rs ++ r ∷ [])
rising-push low [] r rising above = (above, tt)
rising-push low (x ∷ rs) r rising above = (rising.0, rising-push (place_of x) rs r rising.1 above)

pub rising-next : (low : ℕ) (rs : List Record) (r : Record) (others : List Record) → AreRising low (rs ++ r ∷ others) → last_place low rs < place_of r
rising-next low [] r others rising = rising.0
rising-next low (x ∷ rs) r others rising = rising-next (place_of x) rs r others rising.1

pub allowed-push : (rs : List Record) (r : Record) → AllByRecursion Allowed rs → Allowed r → AllByRecursion Allowed (rs ++ r ∷ [])
allowed-push [] r all new = (new, tt)
allowed-push (x ∷ rs) r all new = (all.0, allowed-push rs r all.1 new)
