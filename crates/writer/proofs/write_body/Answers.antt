-- `writer::write_body` meets its contract: what a plan says of the fields that it was made of.
use Rattle.std.proofs.Common.{rules}
use Rattle.plan.specs.Fields.{given}
use Rattle.plan.proofs.Plans.{months_given, update_given}
use Rattle.writer.proofs.write_body.Goals as goal

pub write_months-requires : goal.write_months-requires
write_months-requires c = months_given (given c.args.fields) _ _ (search rules)

pub write_update-requires : goal.write_update-requires
write_update-requires c = update_given (given c.args.fields) (search rules)
