use Rattle.disk_label.proofs.Elsewhere.{IsAnchor-elsewhere, IsReady-elsewhere, anchor_since, keeps_anchors, shows_anchor}
use Rattle.disk_label.proofs.Gates.{keeps_anchor_by_gates}
use Rattle.disk_label.specs.Slot.{IsOnAnchors}
use Rattle.disk_label.proofs.laws.anchor_laws.Goals as goal

pub returns-clause-depends : goal.returns-clause-depends
returns-clause-depends c = λ old new same. IsAnchor-elsewhere old new same

pub returns-clause-shows : goal.returns-clause-shows
returns-clause-shows c = shows_anchor

pub returns-clause-stays : goal.returns-clause-stays
returns-clause-stays c = IsReady-elsewhere

pub returns-clause-beside : goal.returns-clause-beside
returns-clause-beside c = λ old new told touches. keeps_anchors old new (λ v k. ¬ IsOnAnchors v k) told touches (λ v k is. is)

pub returns-clause-keeps : goal.returns-clause-keeps
returns-clause-keeps c = λ old new anchor told has touches. anchor_since old new (λ v k. ¬ IsOnAnchors v k) told touches (λ v k is. is) anchor has

pub returns-clause-gates : goal.returns-clause-gates
returns-clause-gates c = keeps_anchor_by_gates
