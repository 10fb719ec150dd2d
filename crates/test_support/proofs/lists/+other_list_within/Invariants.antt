use Rattle.test_support.proofs.lists.+other_list_within.Given as goal

abbrev pub decreases-other_list_within : goal.decreases-other_list_within
decreases-other_list_within g l = l.levels
