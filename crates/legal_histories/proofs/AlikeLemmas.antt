-- Filesets look like themselves, and differ from themselves in no byte.
use Rattle.std.proofs.Common.{ℕ, List, Option, Some, None, refl, inl}
use Rattle.std.specs.FinMap as map
use Rattle.legal_histories.specs.AfterStop.{FilePage, SameBut, SameByRole, SameNode, SameNodeThere, SamePage, SameSlot, SameTree}
use Rattle.fileset_model.specs.Fileset.{Fileset}
use Rattle.fileset_model.specs.LooksLike.{LooksLike, LooksLikeSlot, LooksLikeThere}
use Rattle.fileset_model.specs.Filesets.{FilesetMap}
use Rattle.fileset_model.specs.declared.fileset.FilesetSlot.{FilesetSlot}
use Rattle.fileset_model.specs.declared.fileset.Role.{Role}
use Rattle.fileset_model.specs.declared.fileset.Role.TheVariants.{Original, CloneOf}
use Rattle.fileset_model.specs.declared.node.Node.{Node}
use Rattle.fileset_model.specs.declared.node.Node.TheVariants.{File, Directory}

pub slot_itself : (slot : FilesetSlot) → LooksLikeSlot slot slot
slot_itself slot = record {
  of = refl;
  original = λ original. refl;
  limits = refl;
  paths = λ path shown. refl;
  out = λ path shown. refl;
  kinds = λ path shown. refl;
  nodes = λ path number shows. refl;
  links = λ path number shows. refl;
}

there_itself : (found : Option FilesetSlot) → LooksLikeThere found found
there_itself None = refl
there_itself (Some slot) = slot_itself slot

pub looks_like_itself : (all : FilesetMap) → LooksLike all all
looks_like_itself all name = there_itself (map.get all name)

page_itself : (MayDiffer : Type 0) (page : Option (List ℕ)) → SamePage MayDiffer page page
page_itself MayDiffer None = refl
page_itself MayDiffer (Some page) = (refl, inl refl)

node_itself : (MayDiffer : ℕ → Type 0) (node : Node) → SameNode MayDiffer node node
node_itself MayDiffer (File uid gid size logged pages) = (refl, refl, refl, refl, λ q. page_itself (MayDiffer q) (map.get pages q))
node_itself MayDiffer (Directory uid gid) = refl

node_there : (MayDiffer : ℕ → Type 0) (node : Option Node) → SameNodeThere MayDiffer node node
node_there MayDiffer None = refl
node_there MayDiffer (Some node) = node_itself MayDiffer node

tree_itself : (MayDiffer : ℕ → ℕ → Type 0) (tree : Fileset) → SameTree MayDiffer tree tree
tree_itself MayDiffer tree = record { paths = refl; limits = refl; nodes = λ number. node_there (MayDiffer number) (map.get tree.nodes number) }

slot_same : (MayDiffer : ℕ → ℕ → Type 0) (role : Role) (tree : Fileset) → SameByRole MayDiffer role tree tree
slot_same MayDiffer Original tree = tree_itself MayDiffer tree
slot_same MayDiffer (CloneOf original out) tree = refl

slot_there : (MayDiffer : ℕ → ℕ → Type 0) (found : Option FilesetSlot) → SameSlot MayDiffer found found
slot_there MayDiffer None = refl
slot_there MayDiffer (Some slot) = (refl, slot_same MayDiffer slot.role slot.tree)

pub same_as_itself : (MayDiffer : FilePage → Type 0) (all : FilesetMap) → SameBut MayDiffer all all
same_as_itself MayDiffer all name = slot_there (λ number q. MayDiffer (name, number, q)) (map.get all name)
