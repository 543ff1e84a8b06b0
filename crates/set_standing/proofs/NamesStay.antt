-- A tag names the file that begins where it did, whatever else a call changes.
use Rattle.std.proofs.Common.{◌≡◌, ◌∙◌, ◌⊎◌, ℕ, Bool, true, false, cond, List, [], ◌∷◌, Option, Some, None, Contains, inl, inr, refl, sym, ap, subst, arith, ⊎_elim}
use Rattle.std.proofs.lemmas.Bool.{cases_Bool}
use Rattle.std.specs.Option.{option_and_then, option_map}
use Rattle.standing_laws.specs.domain_base.declared.place.CellAt.{CellAt}
use Rattle.standing_laws.specs.domain_base.declared.place.Home.{Home}
use Rattle.standing_laws.specs.domain_base.declared.place.Tag.{Tag}
use Rattle.standing_laws.specs.domain_base.declared.version.Version.{Version}
use Rattle.standing_laws.specs.page_store.Bitfiles.{same_tag}
use Rattle.standing_laws.specs.metadata_cells.Cell.{Cell}
use Rattle.standing_laws.specs.metadata_cells.Chain.{PlacedCell}
use Rattle.standing_laws.specs.file_chains.FileChanges.{SameFirst}
use Rattle.standing_laws.specs.fileset_files.Changes.{with_chain, with_first, without_chain}
use Rattle.standing_laws.specs.fileset_files.Creation.{with_new}
use Rattle.standing_laws.specs.fileset_files.Files.{Chains}
use Rattle.standing_laws.proofs.OfFilesetFiles.OneChain.{chain_other, chain_same}
use Rattle.standing_laws.proofs.OfFilesetFiles.OneFile.{tags_same}
use Rattle.standing_laws.specs.release_list.Standing.{Files}
use Rattle.standing_laws.proofs.OfReleaseList.Spread.{none_not, some_same}
use Rattle.standing_laws.proofs.OfReleaseList.Standings.{at_itself}
use Rattle.standing_laws.specs.release_steps.Calls.{Call, FilesetNow, SetsFirst, cut, described, dropped, given, indexed, made, moved, put_in, refused}
use Rattle.standing_laws.specs.release_steps.Tags.{start_of}
use Rattle.standing_laws.specs.domain_standing.Chains.{IndexesAt}
use Rattle.standing_laws.specs.domain_standing.Domain.{DomainNow}
use Rattle.standing_laws.specs.IndexCalls.{with_index_at}
use Rattle.standing_laws.specs.Leads.{MayCall}
use Rattle.standing_laws.specs.Left.{LeavesNothing}
use Rattle.standing_laws.specs.Sound.{StandsSoundBut}
use Rattle.set_standing.specs.Around.{IsNamedIn}

-- what a tag names begins where it began
abbrev pub KeepStarts : Chains → Chains → Type 0
KeepStarts chains now = (tag : Tag) (at : CellAt) → option_and_then start_of (chains tag) ≡ Some at → option_and_then start_of (now tag) ≡ Some at

pub still_named : (chains now : Chains) → KeepStarts chains now → (at : CellAt) → IsNamedIn chains at → IsNamedIn now at
still_named chains now keep at named = (named.0, keep named.0 at named.1)

pub said_start : (says : Cell → Cell) (cells : List PlacedCell) → start_of (with_first says cells) ≡ start_of cells
said_start says [] = refl
said_start says (first ∷ rest) = refl

start_same : (cells after : List PlacedCell) → SameFirst cells after → start_of after ≡ start_of cells
start_same [] after same = absurd same
start_same (a ∷ cells) [] same = absurd same
start_same (a ∷ cells) (b ∷ after) same = ap Some same.0

module _ (tag : Tag) (chains : Chains) where
  pub changed_starts : (change : List PlacedCell → List PlacedCell) → ((cells : List PlacedCell) → chains tag ≡ Some cells → start_of (change cells) ≡ start_of cells) → KeepStarts chains (with_chain tag change chains)
  changed_starts change same t at begins = ⊎_elim here elsewhere (cases_Bool (same_tag t tag))
    where
      by_chain : (o : Option (List PlacedCell)) → chains tag ≡ o → option_and_then start_of o ≡ Some at → option_and_then start_of (option_map change o) ≡ Some at
      by_chain None there was = was
      by_chain (Some cells) there was = same cells there ∙ was

      here : same_tag t tag ≡ true → option_and_then start_of (with_chain tag change chains t) ≡ Some at
      here is =
          let it : t ≡ tag = tags_same t tag is in
          ap (option_and_then start_of) (chain_same tag change chains t is ∙ ap (λ (u : Tag). option_map change (chains u)) it)
          ∙ by_chain (chains tag) refl (ap (λ (u : Tag). option_and_then start_of (chains u)) (sym it) ∙ begins)

      elsewhere : same_tag t tag ≡ false → option_and_then start_of (with_chain tag change chains t) ≡ Some at
      elsewhere differ = ap (option_and_then start_of) (chain_other tag change chains t differ) ∙ begins

  pub said_starts : (says : Cell → Cell) → KeepStarts chains (with_chain tag (with_first says) chains)
  said_starts says = changed_starts (with_first says) (λ cells there. said_start says cells)

  pub new_starts : (cells : List PlacedCell) → chains tag ≡ None → KeepStarts chains (with_new tag cells chains)
  new_starts cells fresh t at begins = ⊎_elim
      (λ same. absurd (none_not at (ap (option_and_then start_of) (sym fresh ∙ ap chains (sym (tags_same t tag same))) ∙ begins)))
      (λ differ. ap (λ (b : Bool). option_and_then start_of (cond b (Some cells) (chains t))) differ ∙ begins)
      (cases_Bool (same_tag t tag))

-- after a call by which no file goes
module _ (number so_far : ℕ) (version : Version) (tag : Tag) (old new : FilesetNow) where
  set_starts : (says : Cell → Cell) → SetsFirst number tag says old new → KeepStarts old.chains new.chains
  set_starts says t = subst (KeepStarts old.chains) (sym t.chains) (said_starts tag old.chains says)

  pub called_starts : (call : Call number version tag old new) → MayCall so_far number version tag old new call → LeavesNothing number version tag old new call → KeepStarts old.chains new.chains
  called_starts (refused t) may nothing = subst (KeepStarts old.chains) (sym t.chains) (λ t at begins. begins)
  called_starts (given t) may nothing = subst (KeepStarts old.chains) (sym t.puts.chains)
      (changed_starts tag old.chains (λ _. t.puts.change.change.changes.after)
      (λ cells there. start_same t.chain t.puts.change.change.changes.after t.puts.change.change.changes.first ∙ ap start_of (some_same t.chain cells (sym t.puts.is ∙ there))))
  called_starts (moved t) may nothing = absurd may
  called_starts (described value t) may nothing = set_starts _ t
  called_starts (put_in parent t) may nothing = set_starts _ t
  called_starts (indexed index t) may nothing = absurd may
  called_starts (cut size lowered t) may nothing = set_starts _ t
  called_starts (dropped t) may nothing = absurd nothing
  called_starts (made t) may nothing = subst (KeepStarts old.chains) (sym t.chains) (new_starts tag old.chains (t.creates.first ∷ []) t.creates.fresh)

-- a file that goes has no index any more: what is not asked of its pages is asked of none
module _ (tag : Tag) (start : CellAt) (chains : Chains) (d : DomainNow) (files : Files) (indexes : IndexesAt) (begins : option_and_then start_of (chains tag) ≡ Some start) where
  none_in : (home : Home) → ¬ Contains [] home
  none_in home inside = omega (arith, inside.1)

  named_still : (at : CellAt) (home : Home) → Contains (with_index_at start [] indexes at) home → IsNamedIn chains at → IsNamedIn (without_chain tag chains) at
  named_still at home inside named = ⊎_elim
      (λ same.
      let here : start ≡ at = some_same start at (sym begins ∙ ap (λ (t : Tag). option_and_then start_of (chains t)) (sym (tags_same named.0 tag same)) ∙ named.1) in
      absurd (none_in home (subst (λ hs. Contains hs home) (ap (with_index_at start [] indexes) (sym here) ∙ ap (λ (b : Bool). cond b [] (indexes start)) (at_itself start)) inside)))
      (λ differ. (named.0, ap (λ (b : Bool). option_and_then start_of (cond b None (chains named.0))) differ ∙ named.1))
      (cases_Bool (same_tag named.0 tag))

  pub gone_named : StandsSoundBut (IsNamedIn chains) d files (with_index_at start [] indexes) → StandsSoundBut (IsNamedIn (without_chain tag chains)) d files (with_index_at start [] indexes)
  gone_named sound = record {
    within = sound.within;
    laters = sound.laters;
    good = λ at home inside. ⊎_elim (λ named. inl (named_still at home inside named)) (λ good. inr good) (sound.good at home inside);
  }
