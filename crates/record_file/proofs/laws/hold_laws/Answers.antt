use Rattle.record_file.proofs.OneReading.{goes_on, one_reading, not_both, too_short}
use Rattle.record_file.proofs.laws.hold_laws.Goals as goal

pub returns-clause-one_reading : goal.returns-clause-one_reading
returns-clause-one_reading c head file bodies others h k = one_reading head bodies others file h k

pub returns-clause-not_bad : goal.returns-clause-not_bad
returns-clause-not_bad c head file bodies offset h bad = not_both head bodies file offset h bad

pub returns-clause-torn_start : goal.returns-clause-torn_start
returns-clause-torn_start c head file bodies le h = too_short head bodies file le h

pub returns-clause-goes_on : goal.returns-clause-goes_on
returns-clause-goes_on c head file all some end offset next body whole none part at = goes_on head file all some end offset next body whole none part at
