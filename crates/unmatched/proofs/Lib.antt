mod Unmatched
