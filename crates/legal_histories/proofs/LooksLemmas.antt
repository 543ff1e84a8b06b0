-- What is shown of filesets: one looks like itself, and shows what another does that is out of sync
-- at the same paths.
use Rattle.std.proofs.Common.{◌≡◌, ◌∙◌, ℕ, zero, suc, ◌<◌, false, length, length-take, take, take-take, refl, ap, arith}
use Rattle.fileset_model.specs.LooksLike.{IsShown, LooksLikeSlot}
use Rattle.fileset_model.specs.fileset_values.Orders.{Path}
use Rattle.fileset_model.specs.Paths.{is_out_of_sync_at}
use Rattle.fileset_model.specs.declared.fileset.FilesetSlot.{FilesetSlot}

pub looks_like_itself : (slot : FilesetSlot) → LooksLikeSlot slot slot
looks_like_itself slot = record {
  of = refl;
  original = λ original. refl;
  limits = refl;
  paths = λ path shown. refl;
  out = λ path shown. refl;
  kinds = λ path shown. refl;
  nodes = λ path number shows. refl;
  links = λ path number shows. refl;
}

module _ (a b : FilesetSlot) (same : (path : Path) → IsShown a path → IsShown b path → is_out_of_sync_at b path ≡ is_out_of_sync_at a path) where
  in_front : (path : Path) (count c : ℕ) → count < length path → c < length (take count path) → (c < count) × (c < length path)
  in_front path count c inside less =
      let short : c < count = omega (arith, less, length-take count path, inside) in
      (short, omega (arith, short, inside))

  -- what no directory before some count refuses is shown up to that count
  front : (slot : FilesetSlot) (path : Path) (n count : ℕ) → count < suc n → count < length path
      → ((c : ℕ) → c < n → c < length path → is_out_of_sync_at slot (take c path) ≡ false) → IsShown slot (take count path)
  front slot path n count below inside earlier c less =
      let is = in_front path count c inside less in
      ap (is_out_of_sync_at slot) (take-take c count path (omega (arith, is.0))) ∙ earlier c (omega (arith, is.0, below)) is.1

  shown_up_to : (path : Path) → IsShown a path → (n count : ℕ) → count < n → count < length path → is_out_of_sync_at b (take count path) ≡ false
  shown_up_to path shown zero count below inside = absurd (omega (arith, below))
  shown_up_to path shown (suc n) count below inside =
      same (take count path) (front a path n count below inside (λ c less within. shown c within))
      (front b path n count below inside (λ c less within. shown_up_to path shown n c less within)) ∙ shown count inside

  pub shown_as : (path : Path) → IsShown a path → IsShown b path
  shown_as path shown count inside = shown_up_to path shown (length path) count inside inside
