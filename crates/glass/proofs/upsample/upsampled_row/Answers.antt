-- `upsampled_row`: by the runs in the row.
use Rattle.glass.proofs.RunRow.{runs_there}
use Rattle.glass.proofs.upsample.upsampled_row.Goals as goal

pub run_row-requires : goal.run_row-requires
run_row-requires c = record { row = c.requires; runs_fit = runs_there c.in-Some.is c.runs_in.ensures }

pub each-requires : goal.each-requires
each-requires c = c.requires
