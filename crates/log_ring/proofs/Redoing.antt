-- An image's pages once groups are redone.
use Rattle.std.proofs.Common.{◌≡◌, ℕ, List, [], ◌∷◌, ◌++◌, Option, Some, None, IsSome, IfSome, refl, sym, ◌∙◌, ap, inl, inr}
use Rattle.std.specs.Option.{option_or}
use Rattle.std.proofs.lemmas.Grind.{flat_map-append}
use Rattle.std.proofs.lemmas.List.{append-nil}
use Rattle.disk_label.specs.volume_disk.Image.{Image, page_at}
use Rattle.log_ring.specs.Images.{image_at}
use Rattle.log_ring.specs.declared.image.PageImage.{PageImage}
use Rattle.log_ring.specs.Groups.{Group, images_of, pages_in}
use Rattle.log_ring.specs.LogLaws.{RedoesAlike, RedoesNothing}

pub images_of-one_more : (groups : List Group) (group : Group) → images_of (groups ++ group ∷ []) ≡ images_of groups ++ group.images
images_of-one_more groups group = flat_map-append (λ (g : Group). g.images) groups (group ∷ []) ∙ ap (λ (l : List PageImage). images_of groups ++ l) (append-nil group.images)

pub redoes_alike : (groups : List Group) (old new : Image) → RedoesAlike groups old new
redoes_alike groups old new home (inl logged) = go (image_at home (images_of groups)) logged
  where
    go : (o : Option (List ℕ)) → IsSome o → option_or o (pages_in new home) ≡ option_or o (pages_in old home)
    go None none = cc
    go (Some page) some = refl
redoes_alike groups old new home (inr same) = ap (λ (o : Option (List ℕ)). option_or (image_at home (images_of groups)) o) same

pub redoes_nothing : (groups : List Group) (image : Image) → RedoesNothing groups image
redoes_nothing groups image are home = go (image_at home (images_of groups)) (are home)
  where
    go : (o : Option (List ℕ)) → IfSome o (λ page. page_at image home.vol home.page ≡ page) → option_or o (pages_in image home) ≡ pages_in image home
    go None is = refl
    go (Some page) is = ap Some (sym is)
