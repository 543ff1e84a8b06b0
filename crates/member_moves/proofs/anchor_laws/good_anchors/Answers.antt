use Rattle.member_moves.proofs.StillGood.{in_state_still, joined_still, restarted_still, upgraded_still, with_log_still, with_table_still, without_still}
use Rattle.member_moves.proofs.anchor_laws.good_anchors.Goals as goal

pub returns-clause-restarted : goal.returns-clause-restarted
returns-clause-restarted c = restarted_still

pub returns-clause-joined : goal.returns-clause-joined
returns-clause-joined c = joined_still

pub returns-clause-in_state : goal.returns-clause-in_state
returns-clause-in_state c = in_state_still

pub returns-clause-without : goal.returns-clause-without
returns-clause-without c = without_still

pub returns-clause-with_log : goal.returns-clause-with_log
returns-clause-with_log c = λ sizes image anchor vol first was. with_log_still sizes image anchor was vol first was

pub returns-clause-with_table : goal.returns-clause-with_table
returns-clause-with_table c = λ sizes image anchor home was. with_table_still sizes image anchor was home was

pub returns-clause-upgraded : goal.returns-clause-upgraded
returns-clause-upgraded c = λ sizes image anchor was. upgraded_still sizes image anchor was was
