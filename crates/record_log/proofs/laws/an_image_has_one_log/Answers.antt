use Rattle.record_log.proofs.LogLaws.{one_log}
use Rattle.record_log.proofs.laws.an_image_has_one_log.Goals as goal

pub returns-clause-log : goal.returns-clause-log
returns-clause-log c image log other base other_base records others has has_other =
    (one_log image log other base other_base records others has has_other).log_is

pub returns-clause-base : goal.returns-clause-base
returns-clause-base c image log other base other_base records others has has_other =
    (one_log image log other base other_base records others has has_other).base_is

pub returns-clause-records : goal.returns-clause-records
returns-clause-records c image log other base other_base records others has has_other =
    (one_log image log other base other_base records others has has_other).records_are
