-- What is to be done before a buffer is used, by how it is to be used (dma_resv_usage_rw).
use Rattle.std.specs.Prelude.{List}
use Rattle.ttm_base.specs.declared.JobId.{JobId}
use Rattle.ttm_base.specs.declared.Usage.{Usage}
use Rattle.ttm_base.specs.declared.Usage.TheVariants.{Kernel, Write, Read}
use Rattle.journal_model.specs.declared.state.Buffer.{Buffer}
use Rattle.journal_model.specs.rules.Waits.{jobs_before_read, jobs_before_write}

-- the usage that covers, with the lower ones, the jobs to wait for
abbrev pub covering : Usage → Usage
covering Read = Write
covering Write = Read
covering Kernel = Read

-- the jobs that must be done before the buffer is read, written or moved
abbrev pub jobs_before : Usage → Buffer → List JobId
jobs_before Read x = jobs_before_read x
jobs_before Write x = jobs_before_write x
jobs_before Kernel x = jobs_before_write x
