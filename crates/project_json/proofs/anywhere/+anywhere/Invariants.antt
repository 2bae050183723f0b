use Rattle.std.proofs.Common.{◌≡◌, drop}
use Rattle.serde_json.specs.View.{items_view, members_view}
use Rattle.project_json.specs.Parts.{in_items, in_members}
use Rattle.project_json.specs.FormRules.{is_not_whole}
use Rattle.project_json.proofs.anywhere.+anywhere.Given as goal

abbrev pub invariant-is_in_items-loop-item : goal.invariant-is_in_items-loop-item
invariant-is_in_items-loop-item l =
    in_items is_not_whole (items_view l.item-items) ≡ in_items is_not_whole (items_view (drop l.item-index l.item-items))

abbrev pub invariant-is_in_members-loop-member : goal.invariant-is_in_members-loop-member
invariant-is_in_members-loop-member l =
    (goal.iterator-is_in_members-loop-member).can_next l.member-iterator × (goal.iterator-is_in_members-loop-member).is_finite l.member-iterator
    × (in_members is_not_whole (members_view l.members.entries) ≡ in_members is_not_whole (members_view l.member-iterator))
