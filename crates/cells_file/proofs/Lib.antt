-- `Filings` has why what the test accepts is a filing.
pub mod Filings
