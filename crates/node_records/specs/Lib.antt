pub mod NodeRecords
