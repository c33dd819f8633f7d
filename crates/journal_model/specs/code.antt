-- What serves the code alone: jobs in rows and runs, and the buffers that operations name.
pub mod JobRuns
pub mod Jobs
pub mod Ops
