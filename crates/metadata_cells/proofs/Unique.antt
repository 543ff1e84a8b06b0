-- A cell is one cell at most.
use Rattle.std.proofs.Common.{◌≡◌, ◌∙◌, ℕ, Option, Some, None, List, [], ◌∷◌, ◌++◌, length, take, drop, refl, sym, ap, subst, arith, length-append}
use Rattle.std.proofs.lemmas.List.{append-nil}
use Rattle.std.specs.List.{AllByRecursion}
use Rattle.page_store.specs.domain_base.declared.place.CellAt.{CellAt}
use Rattle.page_store.specs.Pages.{Pages}
use Rattle.cell_records.specs.declared.record.Record.{Record}
use Rattle.cell_records.specs.Records.{Allowed, spelling}
use Rattle.metadata_cells.specs.declared.head.CellHead.{CellHead}
use Rattle.metadata_cells.specs.declared.head.CellKind.{CellKind}
use Rattle.metadata_cells.specs.Cell.{Cell, HasHead, IsAddress, IsCell, IsFileset, spellings}
use Rattle.metadata_cells.specs.Chain.{HasHeadAt, StandsAt}
use Rattle.metadata_cells.proofs.Spellings.{behind, some_bytes}
use Rattle.metadata_cells.proofs.Walk.{one_kind}

one_address : (vol cell page : ℕ) (a b : Option CellAt) → IsAddress vol cell page a → IsAddress vol cell page b → a ≡ b
one_address vol cell page None None is_a is_b = refl
one_address vol cell page None (Some b) is_a is_b = absurd (omega (arith, is_a.0, is_b.0.0))
one_address vol cell page (Some a) None is_a is_b = absurd (omega (arith, is_b.0, is_a.0.0))
one_address vol cell page (Some a) (Some b) is_a is_b = ap Some (is_a.1 ∙ sym is_b.1)

one_fileset : (n : ℕ) (a b : Option ℕ) → IsFileset n a → IsFileset n b → a ≡ b
one_fileset n None None is_a is_b = refl
one_fileset n None (Some b) is_a is_b = absurd (omega (arith, is_a, is_b.0))
one_fileset n (Some a) None is_a is_b = absurd (omega (arith, is_b, is_a.0))
one_fileset n (Some a) (Some b) is_a is_b = let same : a ≡ b = omega (arith, is_a.0, is_b.0) in ap Some same

abbrev head_from : Option CellAt → ℕ → ℕ → Option ℕ → CellKind → CellHead
head_from next slot seq fileset kind = record { next = next; slot = slot; seq = seq; fileset = fileset; kind = kind }

pub one_head : (bytes : List ℕ) (a b : CellHead) (m n : ℕ) → HasHead bytes a m → HasHead bytes b n → a ≡ b
one_head bytes a b m n is_a is_b =
    let next = one_address _ _ _ a.next b.next is_a.next is_b.next in
    let slot : a.slot ≡ b.slot = is_a.slot ∙ sym is_b.slot in
    let seq : a.seq ≡ b.seq = is_a.seq ∙ sym is_b.seq in
    let fileset = one_fileset _ a.fileset b.fileset is_a.fileset is_b.fileset in
    let kind : a.kind ≡ b.kind = one_kind a.kind b.kind (sym is_a.kind ∙ is_b.kind) in
    (λ i. head_from (next i) (slot i) (seq i) (fileset i) (kind i))

pub one_list : (xs ys : List Record) → AllByRecursion Allowed xs → AllByRecursion Allowed ys → spellings xs ≡ spellings ys → xs ≡ ys
one_list xs ys good_x good_y same =
    let b = behind xs ys [] good_x good_y (sym same ∙ sym (append-nil (spellings xs))) in
    sym (b.all ∙ ap (λ (rs : List Record). xs ++ rs) (none b.others b.allowed b.spelled) ∙ append-nil xs)
  where
    none : (rs : List Record) → AllByRecursion Allowed rs → [] ≡ spellings rs → rs ≡ []
    none [] good empty = refl
    none (r ∷ rs) good empty = absurd (omega (arith, some_bytes r good.0, ap length empty, length-append (spelling r) (spellings rs)))

abbrev cell_from : CellHead → List Record → Cell
cell_from head records = record { head = head; records = records }

pub one_cell : (bytes : List ℕ) (a b : Cell) → IsCell bytes a → IsCell bytes b → a ≡ b
one_cell bytes a b is_a is_b =
    let head = one_head bytes a.head b.head _ _ is_a.head is_b.head in
    let long : length (spellings a.records) ≡ length (spellings b.records) = sym is_a.head.size ∙ is_b.head.size in
    let records = one_list a.records b.records is_a.well_formed.allowed is_b.well_formed.allowed
    (sym is_a.records ∙ ap (λ n. take n (drop 20 bytes)) long ∙ is_b.records) in
    (λ i. cell_from (head i) (records i))

some_is : (a b : List ℕ) → Some a ≡ Some b → a ≡ b
some_is a b same = cc

pub one_stands : (pages : Pages) (at : CellAt) (a b : Cell) → StandsAt pages at a → StandsAt pages at b → a ≡ b
one_stands pages at a b there_a there_b =
    let same = some_is there_b.bytes there_a.bytes (sym there_b.there ∙ there_a.there) in
    one_cell there_a.bytes a b there_a.is (subst (λ bytes. IsCell bytes b) same there_b.is)

pub one_head_stands : (pages : Pages) (at : CellAt) (head : CellHead) (cell : Cell) → HasHeadAt pages at head → StandsAt pages at cell → head ≡ cell.head
one_head_stands pages at head cell has there =
    let same = some_is there.bytes has.bytes (sym there.there ∙ has.there) in
    one_head has.bytes head cell.head has.size _ has.is (subst (λ bytes. HasHead bytes cell.head (length (spellings cell.records))) same there.is.head)
