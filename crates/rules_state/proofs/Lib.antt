pub mod FindLaws
pub mod PendingJobs
