use Rattle.std.proofs.Common.{◌≡◌, ◌*◌, ◌∙◌, ℕ, IsSomeAnd, subst, sym}
use Rattle.std.specs.Option.{option_and_then}
use Rattle.domain_changes.specs.fileset_files.Files.{attributes_of, of_live}
use Rattle.domain_changes.specs.fileset_model.Paths.{node_at}
use Rattle.name_commands.specs.Leaving.{IsShareOf}
use Rattle.name_commands.proofs.Shares.{is_there, not_both, share_is}
use Rattle.name_commands.proofs.leaving.share_of.Goals as goal
use Rattle.name_commands.proofs.leaving.share_of.Goals.{in-File+in_ok-pages-in-File, in-Directory}

pub describe-what-requires-clause-there : goal.describe-what-requires-clause-there
describe-what-requires-clause-there c = λ chains are. is_there c.args.kind (option_and_then (of_live attributes_of) (chains c.args.tag)) (c.requires.live chains are)

pub returns : goal.returns
returns c = λ path all entry fileset has led.
    let is = c.describe-what.ensures.is path all entry fileset has in
    let blocks : 16 * c.match-kind.pages ≡ c.from.result * c.from-2.result = λ i. sym c.from.ensures i * sym c.from-2.ensures i in
    subst (λ (n : ℕ). IsSomeAnd (node_at fileset.tree path) (IsShareOf (record { uid = c.describe-what.result.uid; gid = c.describe-what.result.gid; blocks = n }))) blocks
    (share_is (node_at fileset.tree path) c.describe-what.result c.args.kind c.match-kind.pages is.node led.kind
    (λ file. elim c.match-kind.branch [
      | in-File+in_ok-pages-in-File w ↦ w.pages-is ∙ w.in_ok-pages-in-File.ensures path all entry fileset has
      | in-Directory w ↦ absurd (not_both (sym file ∙ w.in-Directory.is))
    ])
    (λ dir. elim c.match-kind.branch [
      | in-File+in_ok-pages-in-File w ↦ absurd (not_both (sym w.in-File.is ∙ dir))
      | in-Directory w ↦ w.pages-is
    ]))
