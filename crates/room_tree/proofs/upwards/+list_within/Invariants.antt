use Rattle.room_tree.proofs.upwards.+list_within.Given as goal

abbrev pub decreases-list_within : goal.decreases-list_within
decreases-list_within g l = l.levels
