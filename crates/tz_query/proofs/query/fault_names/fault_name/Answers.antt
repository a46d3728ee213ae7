-- A refusal has its own name.
use Rattle.tz_query.proofs.Common.{refl}
use Rattle.tz_query.proofs.query.fault_names.fault_name.Goals as goal

pub returns-in-NoAvailableLocalTimeType-clause-text :
    goal.returns-in-NoAvailableLocalTimeType-clause-text
returns-in-NoAvailableLocalTimeType-clause-text c = rw c.in-NoAvailableLocalTimeType.is refl
