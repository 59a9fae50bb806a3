mod Context
