pub mod ReportLaw
