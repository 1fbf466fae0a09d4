pub mod MaskedRows
